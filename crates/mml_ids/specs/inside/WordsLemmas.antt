-- Which ranks the words of a set store. The file is in `specs/`, because the type `NodeSet` uses `words_back`.
use Rattle.std.proofs.Common.{◌≡◌, ℕ, zero, suc, ◌<◌, ◌≤◌, ◌+◌, ◌≢◌, Bool, true, false, not, cond, ◌&&◌, ◌||◌, eqb, ltb, List, length, get_or, set, sym, refl, ap, ◌∙◌, subst, arith, inl, inr}
use Rattle.std.proofs.Common.{get_or-set_same, get_or-set_other, length-set, ◌-◌, ◌*◌, ◌^◌, ◌/◌, ◌%◌, lit<, add-one}
use Rattle.std.proofs.lemmas.Bool.{cases_order, cases_eq, eq-eqb, ne_eqb, eqb-true, eqb-false, lt-ltb, le-ltb}
use Rattle.std.specs.{Cmp.nat_cmp_total, Cmp.unsigned_tied, Ordering.nat_cmp, FinSet.FinSet, FinSet.nat_cmp-IsAntisymmetric, Int.bit_at}
use Rattle.std.proofs.lemmas.{List.FromFn.fill_by_all, Nat.Bits.same_from_bits_below, Nat.Bits.bit_at_cat_low, Nat.Bits.bit_at_cat_high, Nat.Bits.bit_at-lt, Grind.pow_more}
use Rattle.mml_ids.specs.{Sets.those_below, inside.Words.bit_in, inside.Words.set_of, inside.Words.ones_at, inside.Words.word_of, inside.Words.words_of, inside.Words.AreWords}
use Rattle.std.specs.FinSet as sets

pub has_empty : (q : ℕ) → sets.contains (sets.empty {R = nat_cmp}) q ≡ false
has_empty q = sets.contains-empty nat_cmp q

pub has_insert : (s : FinSet nat_cmp) (k q : ℕ) → sets.contains (sets.insert s k) q ≡ (eqb q k || sets.contains s q)
has_insert s k q = sets.contains-insert nat_cmp_total s k q ∙ ap (λ b. b || sets.contains s q) (unsigned_tied q k)

pub has_remove : (s : FinSet nat_cmp) (k q : ℕ) → sets.contains (sets.remove s k) q ≡ (not (eqb q k) && sets.contains s q)
has_remove s k q = sets.contains-remove nat_cmp_total s k q ∙ ap (λ b. not b && sets.contains s q) (unsigned_tied q k)

pub same_ranks : (s t : FinSet nat_cmp) → ((q : ℕ) → sets.contains s q ≡ sets.contains t q) → s ≡ t
same_ranks s t h = sets.same_set nat_cmp_total nat_cmp-IsAntisymmetric s t h

added : (b : Bool) (s : FinSet nat_cmp) (n q : ℕ) → sets.contains (cond b (sets.insert s n) s) q ≡ ((b && eqb q n) || sets.contains s q)
added true s n q = has_insert s n q
added false s n q = refl

at_last : (x e l m y : Bool) → e ≡ true → l ≡ false → m ≡ true → x ≡ y → ((x && e) || (l && y)) ≡ (m && y)
at_last true e l m y he hl hm hx = rw (he, hm, ← hx) refl
at_last false e l m y he hl hm hx = rw (hl, hm, ← hx) refl

at_other : (x e l m y : Bool) → e ≡ false → m ≡ l → ((x && e) || (l && y)) ≡ (m && y)
at_other true e l m y he hm = rw (he, hm) refl
at_other false e l m y he hm = rw (hm) refl

pub has-those_below : (n : ℕ) (t : ℕ → Bool) (q : ℕ) → sets.contains (those_below n t) q ≡ (ltb q n && t q)
unfolding those_below
has-those_below zero t q = has_empty q ∙ ap (λ b. b && t q) (sym (le-ltb q 0 (omega arith)))
has-those_below (suc n) t q =
    added (t n) (those_below n t) n q ∙ ap (λ b. (t n && eqb q n) || b) (has-those_below n t q) ∙
    elim (cases_order q n) [
      | inl same ↦ at_last (t n) (eqb q n) (ltb q n) (ltb q (suc n)) (t q) (eq-eqb q n same) (le-ltb q n (omega arith)) (lt-ltb q (suc n) (omega arith))
          (ap t (sym same))
      | inr o ↦ elim o [
        | inl lt ↦
            at_other (t n) (eqb q n) (ltb q n) (ltb q (suc n)) (t q) (ne_eqb q n (λ e. omega arith)) (lt-ltb q (suc n) (omega arith) ∙ sym (lt-ltb q n lt))
        | inr gt ↦ at_other (t n) (eqb q n) (ltb q n) (ltb q (suc n)) (t q) (ne_eqb q n (λ e. omega arith))
            (le-ltb q (suc n) (omega arith) ∙ sym (le-ltb q n (omega arith)))
      ]
    ]

pub has-set_of : (n : ℕ) (words : List ℕ) (q : ℕ) → sets.contains (set_of n words) q ≡ (ltb q n && bit_in words q)
unfolding set_of
has-set_of n words q = has-those_below n (bit_in words) q

bit_test : (x : ℕ) → x < 2 → (b : Bool) → eqb x 1 ≡ b → cond b 1 0 ≡ x
bit_test x l true e = sym (eqb-true x 1 e)
bit_test x l false e = let ne : x ≡ 1 → ⊥ = eqb-false x 1 e in omega arith

one_below : (b : Bool) (n r : ℕ) → r < 2 ^ n → cond b 1 0 * 2 ^ n + r < 2 ^ (n + 1)
one_below true n r h = omega (arith, pow_more 2 n)
one_below false n r h = omega (arith, pow_more 2 n)

ones_below : (n : ℕ) (t : ℕ → Bool) → ones_at n t < 2 ^ n
ones_below zero t = lit< tt
ones_below (suc n) t = subst (λ k. cond (t n) 1 0 * 2 ^ n + ones_at n t < 2 ^ k) (add-one n) (one_below (t n) n (ones_at n t) (ones_below n t))

ones_bit : (n k : ℕ) (t : ℕ → Bool) → k < n → bit_at (ones_at n t) k ≡ cond (t k) 1 0
ones_bit zero k t l = absurd (omega arith)
ones_bit (suc n) k t l = elim (cases_order k n) [
  | inl e ↦ subst (λ x. bit_at (ones_at (suc n) t) x ≡ cond (t x) 1 0) (sym e)
      (bit_at_cat_high (cond (t n) 1 0) n (ones_at n t) n (ones_below n t) (omega arith) ∙ top (t n))
  | inr o ↦ elim o [
    | inl lt ↦ bit_at_cat_low (cond (t n) 1 0) n (ones_at n t) k lt ∙ ones_bit n k t lt
    | inr gt ↦ absurd (omega arith)
  ]
]
  where
    top : (b : Bool) → bit_at (cond b 1 0) (n - n) ≡ cond b 1 0
    top b = ap (bit_at (cond b 1 0)) (zero_gap) ∙ low b
      where
        zero_gap : n - n ≡ 0
        zero_gap = omega arith

        low : (b : Bool) → bit_at (cond b 1 0) 0 ≡ cond b 1 0
        low true = refl
        low false = refl

word_back : (n : ℕ) (words : List ℕ) (w : ℕ) → 64 * w + 64 ≤ n → get_or words w 0 < 2 ^ 64 → word_of (set_of n words) w ≡ get_or words w 0
word_back n words w fits h = same_from_bits_below 64 _ (get_or words w 0) (ones_below 64 (λ k. sets.contains (set_of n words) (64 * w + k))) h (λ i l.
    ones_bit 64 i (λ k. sets.contains (set_of n words) (64 * w + k)) l
    ∙ bit_test (bit_at (get_or words w 0) i) (bit_at-lt (get_or words w 0) i) (sets.contains (set_of n words) (64 * w + i))
    (sym (has-set_of n words (64 * w + i) ∙ ap (λ b. b && bit_in words (64 * w + i)) (lt-ltb (64 * w + i) n (omega arith)) ∙ at i l)))
  where
    at : (i : ℕ) → i < 64 → bit_in words (64 * w + i) ≡ eqb (bit_at (get_or words w 0) i) 1
    at i l =
        let q : (64 * w + i) / 64 ≡ w = omega arith in
        let r : (64 * w + i) % 64 ≡ i = omega arith in
        ap (λ x. eqb (bit_at (get_or words x 0) ((64 * w + i) % 64)) 1) q ∙ ap (λ x. eqb (bit_at (get_or words w 0) x) 1) r

pub words_back : (n : ℕ) (words : List ℕ) → length words ≡ n → ((w : ℕ) → w < n → get_or words w 0 < 2 ^ 64) → words_of n (set_of (64 * n) words) ≡ words
unfolding words_of
words_back n words e h = sym (fill_by_all (word_of (set_of (64 * n) words)) words n 0 e (λ w l. sym (word_back (64 * n) words w (omega arith) (h w l))))

-- if the word with the bit of rank r is replaced by one that differs in no other bit, the other ranks keep their bits
bits_beside : (words : List ℕ) (new r q : ℕ) → r / 64 < length words → ((i : ℕ) → i < 64 → i ≢ r % 64 → bit_at new i ≡ bit_at (get_or words (r / 64) 0) i)
    → q ≢ r → bit_in (set words (r / 64) new) q ≡ bit_in words q
bits_beside words new r q l there ne = elim (cases_eq (q / 64) (r / 64)) [
  | inl e ↦
      let other : q % 64 ≢ r % 64 = λ f. ne (omega arith) in
      ap (λ x. eqb (bit_at (get_or (set words (r / 64) new) x 0) (q % 64)) 1) e
      ∙ ap (λ x. eqb (bit_at x (q % 64)) 1) (get_or-set_same words (r / 64) new 0 l)
      ∙ ap (λ x. eqb x 1) (there (q % 64) (omega arith) other)
      ∙ ap (λ x. eqb (bit_at (get_or words x 0) (q % 64)) 1) (sym e)
  | inr far ↦ ap (λ x. eqb (bit_at x (q % 64)) 1) (get_or-set_other words (r / 64) (q / 64) new 0 far)
]

bit_here : (words : List ℕ) (new r : ℕ) → r / 64 < length words → bit_in (set words (r / 64) new) r ≡ eqb (bit_at new (r % 64)) 1
bit_here words new r l = ap (λ x. eqb (bit_at x (r % 64)) 1) (get_or-set_same words (r / 64) new 0 l)

pub set_of-set : (n : ℕ) (words : List ℕ) (new r : ℕ) → r < n → r / 64 < length words → bit_at new (r % 64) ≡ 1
    → ((i : ℕ) → i < 64 → i ≢ r % 64 → bit_at new i ≡ bit_at (get_or words (r / 64) 0) i) → set_of n (set words (r / 64) new) ≡ sets.insert (set_of n words) r
set_of-set n words new r l in_words here there =
    same_ranks _ _ (λ q. has-set_of n (set words (r / 64) new) q ∙ at q ∙ sym (has_insert (set_of n words) r q ∙ ap (λ b. eqb q r || b) (has-set_of n words q)))
  where
    at : (q : ℕ) → (ltb q n && bit_in (set words (r / 64) new) q) ≡ (eqb q r || (ltb q n && bit_in words q))
    at q = elim (cases_eq q r) [
      | inl e ↦
          ap (λ x. ltb x n && bit_in (set words (r / 64) new) x) e ∙ ap (λ b. b && bit_in (set words (r / 64) new) r) (lt-ltb r n l)
          ∙ bit_here words new r in_words ∙ ap (λ x. eqb x 1) here
          ∙ sym (ap (λ b. b || (ltb q n && bit_in words q)) (eq-eqb q r e))
      | inr ne ↦ ap (λ b. ltb q n && b) (bits_beside words new r q in_words there ne) ∙ sym (ap (λ b. b || (ltb q n && bit_in words q)) (ne_eqb q r ne))
    ]

clear_here : (b : Bool) → (b && eqb 0 1) ≡ false
clear_here true = refl
clear_here false = refl

pub set_of-clear : (n : ℕ) (words : List ℕ) (new r : ℕ) → r / 64 < length words → bit_at new (r % 64) ≡ 0
    → ((i : ℕ) → i < 64 → i ≢ r % 64 → bit_at new i ≡ bit_at (get_or words (r / 64) 0) i) → set_of n (set words (r / 64) new) ≡ sets.remove (set_of n words) r
set_of-clear n words new r in_words here there =
    same_ranks _ _ (λ q. has-set_of n (set words (r / 64) new) q ∙ at q ∙ sym (has_remove (set_of n words) r q ∙ ap (λ b. not (eqb q r) && b) (has-set_of n words q)))
  where
    at : (q : ℕ) → (ltb q n && bit_in (set words (r / 64) new) q) ≡ (not (eqb q r) && (ltb q n && bit_in words q))
    at q = elim (cases_eq q r) [
      | inl e ↦
          ap (λ x. ltb q n && bit_in (set words (r / 64) new) x) e
          ∙ ap (λ b. ltb q n && b) (bit_here words new r in_words ∙ ap (λ x. eqb x 1) here)
          ∙ clear_here (ltb q n)
          ∙ sym (ap (λ b. not b && (ltb q n && bit_in words q)) (eq-eqb q r e))
      | inr ne ↦ ap (λ b. ltb q n && b) (bits_beside words new r q in_words there ne) ∙ sym (ap (λ b. not b && (ltb q n && bit_in words q)) (ne_eqb q r ne))
    ]

pub put_words : (n : ℕ) (words : List ℕ) (p new : ℕ) → AreWords n words → p < n → new < 2 ^ 64 → AreWords n (set words p new)
put_words n words p new a l h = record {
  count = length-set words p new ∙ a.count;
  each = λ w lw. elim (cases_eq w p) [
    | inl e ↦
        subst (λ x. get_or (set words p new) x 0 < 2 ^ 64) (sym e) (subst (λ x. x < 2 ^ 64) (sym (get_or-set_same words p new 0 (omega (arith, a.count)))) h)
    | inr ne ↦ subst (λ x. x < 2 ^ 64) (sym (get_or-set_other words p w new 0 ne)) (a.each w lw)
  ];
}
