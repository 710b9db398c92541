-- How operations on the words of a set change the set that they store.
use Rattle.std.proofs.Common.{◌≡◌, ℕ, zero, suc, ◌+◌, ◌-◌, ◌*◌, ◌/◌, ◌%◌, ◌^◌, ◌<◌, ◌≤◌, true, false, not, cond, ◌&&◌, eqb, ltb, List, [], ◌∷◌, get_or, refl, sym, ap, ◌∙◌, subst, arith}
use Rattle.std.proofs.Common.{w64, bit_and, bit_or, set, lit<}
use Rattle.std.proofs.lemmas.Bool.{cases_lt, cases_eq, cases_order, eq-eqb, eqb-true, eqb-false, lt-ltb, le-ltb, ltb-true, and_parts, and_right}
use Rattle.std.proofs.lemmas.{Nat.pow_pos, Nat.ones-le, Nat.or_lt, Nat.and_le_l, Nat.ones_le_self, Nat.zero_from_ones, Grind.common_steps, List.length-set}
use Rattle.std.proofs.Math.{Nat.pow-succ', Nat.mod-eq_of_lt, Nat.div-eq_of_lt-le, Arith.mod-mul}
use Rattle.std.proofs.lemmas.Nat.Bits.{bit_at_and, bit_at_not, bit_at-lt, bit_at-zero, bit_at_above, bit_at_ones, shr_and_one, bit_at-trailing_zeros}
use Rattle.std.proofs.lemmas.Nat.Bits.{bit_at_clear_same, bit_at_clear_other, bit_at_set_same, bit_at_set_other, ones_shl, bit_at_mask_inside, bit_at_mask_below}
use Rattle.std.specs.{Int.bit_at, Int.bit_not, Int.trailing_zeros, Prelude.count_ones, Ordering.nat_cmp, Cmp.nat_cmp_total, FinSet.FinSet}
use lib.Count.{ones_cat}
use Rattle.mml_ids.specs.{Sets.those_below, inside.Words.set_of, inside.Words.AreWords}
use Rattle.mml_ids.specs.inside.WordsLemmas.{set_of-set, set_of-clear, put_words, has_empty, has-set_of, has-those_below, same_ranks}
use Rattle.std.specs.FinSet as sets

-- what holds of 0, 1, 2 and 3 holds of each number below 4
pub each_of_four : (P : ℕ → Type 0) → P 0 → P 1 → P 2 → P 3 → (w : ℕ) → w < 4 → P w
each_of_four P a b c d w l = grind arith

-- four words, each given by its index
abbrev pub four_words : (ℕ → ℕ) → List ℕ
four_words word = word 0 ∷ word 1 ∷ word 2 ∷ word 3 ∷ []

has_four : (word : ℕ → ℕ) (q : ℕ) → sets.contains (set_of 256 (four_words word)) q ≡ (ltb q 256 && eqb (bit_at (word (q / 64)) (q % 64)) 1)
has_four word q = grind (arith, has-set_of, cases_lt, le-ltb, each_of_four (λ w. get_or (four_words word) w 0 ≡ word w) refl refl refl refl (q / 64))

-- words that are the bitwise AND of the words of two sets store the intersection of the sets
pub set_of_and : (a b : List ℕ) → set_of 256 (four_words (λ w. bit_and (get_or a w 0) (get_or b w 0))) ≡ sets.intersection (set_of 256 a) (set_of 256 b)
set_of_and a b = same_ranks _ _ (λ q.
    has_four (λ w. bit_and (get_or a w 0) (get_or b w 0)) q
    ∙ grind (arith, bit_at_and, bit_at-lt, has-set_of)
    ∙ sym (sets.contains-intersection nat_cmp_total (set_of 256 a) (set_of 256 b) q))

bit-and_not : (x y i : ℕ) → y < 2 ^ 64 → i < 64 → eqb (bit_at (bit_and x (bit_not w64 y)) i) 1 ≡ (eqb (bit_at x i) 1 && not (eqb (bit_at y i) 1))
bit-and_not x y i fits l = grind (arith, bit_at_and x (bit_not w64 y) i, bit_at_not w64 y i fits l, bit_at-lt x i, bit_at-lt y i)

-- words that are the first set's words without the bits of the second set's store the difference of the sets
pub set_of_and_not : (a b : List ℕ) → AreWords 4 b
    → set_of 256 (four_words (λ w. bit_and (get_or a w 0) (bit_not w64 (get_or b w 0)))) ≡ sets.difference (set_of 256 a) (set_of 256 b)
set_of_and_not a b fits = same_ranks _ _ (λ q.
    has_four (λ w. bit_and (get_or a w 0) (bit_not w64 (get_or b w 0))) q
    ∙ grind (arith, bit-and_not (get_or a (q / 64) 0) (get_or b (q / 64) 0) (q % 64), has-set_of, cases_lt q 256, le-ltb q 256)
    ∙ sym (sets.contains-difference nat_cmp_total (set_of 256 a) (set_of 256 b) q))

-- the word of 64 bits in which all bits above bit r are 1, and no others
abbrev pub ones_above : ℕ → ℕ
ones_above r = bit_and ((2 ^ 64 - 1) * 2 ^ r % 2 ^ 64) (bit_not w64 (1 * 2 ^ r % 2 ^ 64))

-- bit k of the word w is 1 exactly if rank 64 * w + k is above r
abbrev pub IsAbove : ℕ → ℕ → ℕ → Type 0
IsAbove r w word = (k : ℕ) → k < 64 → eqb (bit_at word k) 1 ≡ ltb r (64 * w + k)

-- bit k of the word with the bit of rank r is 1 exactly if rank 64 * w + k is above r
pub bit_above : (r w k : ℕ) → w ≡ r / 64 → k < 64 → eqb (bit_at (ones_above (r % 64)) k) 1 ≡ ltb r (64 * w + k)
bit_above r w k at lt =
    let ones : ℕ = (2 ^ 64 - 1) * 2 ^ (r % 64) % 2 ^ 64 in
    let same = bit_at_clear_same w64 ones (r % 64) (omega arith) in
    let other = bit_at_clear_other w64 ones (r % 64) (omega arith) k lt in
    grind (arith, cases_order k (r % 64), same, other, ones_shl 64 (r % 64), bit_at_mask_inside (r % 64) 64 k, bit_at_mask_below (r % 64) 64 k)

-- in a word after that of rank r, each bit is that of a rank above r
pub bits_after : (r w k : ℕ) → r / 64 < w → k < 64 → eqb (bit_at (2 ^ 64 - 1) k) 1 ≡ ltb r (64 * w + k)
bits_after r w k later lt = grind (arith, bit_at_ones 64 k lt)

-- in four words whose bits are those of the ranks above r, q has the bit 1 exactly if q is above r
pub has_above : (r q a b c d : ℕ) → IsAbove r 0 a → IsAbove r 1 b → IsAbove r 2 c → IsAbove r 3 d
    → sets.contains (set_of 256 (a ∷ b ∷ c ∷ d ∷ [])) q ≡ (ltb r q && ltb q 256)
has_above r q a b c d h i j k =
    let each = each_of_four (λ w. IsAbove r w (get_or (a ∷ b ∷ c ∷ d ∷ []) w 0)) h i j k (q / 64) in
    grind (arith, each, has-set_of, cases_lt q 256, le-ltb, and_right)

bits_more : (b j : ℕ) → count_ones (b % 2 ^ suc j) ≡ bit_at b j + count_ones (b % 2 ^ j)
bits_more b j =
    ap count_ones (ap (λ m. b % m) (pow-succ' 2 j) ∙ mod-mul b {m = 2} {c = 2 ^ j} (lit< tt) (pow_pos j))
    ∙ ones_cat j (bit_at b j) (b % 2 ^ j) (omega (arith, pow_pos j))
    ∙ ap (λ k. k + count_ones (b % 2 ^ j)) (grind (arith, ones_le_self (bit_at b j), zero_from_ones (bit_at b j), bit_at-lt b j))

-- adding a rank that isn't in the set makes its size greater by one
pub len-insert_new : (s : FinSet nat_cmp) (k : ℕ) → sets.contains s k ≡ false → sets.len (sets.insert s k) ≡ sets.len s + 1
len-insert_new s k e = sets.len-insert nat_cmp_total s k ∙ ap (λ c. cond c (sets.len s) (sets.len s + 1)) e

len_more : (n : ℕ) (words : List ℕ) → sets.len (set_of (suc n) words) ≡ bit_at (get_or words (n / 64) 0) (n % 64) + sets.len (set_of n words)
unfolding set_of those_below
len_more n words = grind (arith, len-insert_new, has-those_below, le-ltb n n, eqb-true, eqb-false, bit_at-lt)

-- the set of ranks below 0 is empty
pub len_none : (words : List ℕ) → sets.len (set_of 0 words) ≡ 0
unfolding set_of those_below
len_none words = sets.len-empty nat_cmp

-- the ranks of the set below 64 * w + j are those below 64 * w, and one for each 1 among the lowest j bits of word w
len_part : (words : List ℕ) (w j : ℕ) → j ≤ 64 → sets.len (set_of (64 * w + j) words) ≡ count_ones (get_or words w 0 % 2 ^ j) + sets.len (set_of (64 * w) words)
len_part words w zero l = grind (arith, ones_le_self 0)
len_part words w (suc j) l = grind (arith, len_more (64 * w + j) words, bits_more (get_or words w 0) j, len_part words w j)

-- each word adds as many ranks to the set as it has bits that are 1, at most 64
pub len_word : (words : List ℕ) (w : ℕ) → get_or words w 0 < 2 ^ 64
    → (count_ones (get_or words w 0) ≤ 64) × (sets.len (set_of (64 * (w + 1)) words) ≡ count_ones (get_or words w 0) + sets.len (set_of (64 * w) words))
len_word words w fits = grind (arith, len_part words w 64, mod-eq_of_lt fits, ones-le 64 (get_or words w 0) fits)

-- if all words are zero, they store the empty set
pub none_of_zeros : (n : ℕ) (words : List ℕ) → ((w : ℕ) → 64 * w < n → get_or words w 0 ≡ 0) → set_of n words ≡ sets.empty
none_of_zeros n words zeros = grind (arith, same_ranks, has-set_of, has_empty, cases_lt, bit_at-zero, and_right, le-ltb)

-- if bit k of word w is 1, its rank is in the set
pub has_one : (n : ℕ) (words : List ℕ) (w k : ℕ) → 64 * w + k < n → k < 64 → bit_at (get_or words w 0) k ≡ 1
    → sets.contains (set_of n words) (64 * w + k) ≡ true
has_one n words w k inside below one = grind (arith, has-set_of, lt-ltb, eq-eqb)

-- the rank of the highest 1 of a word is in the set
pub has_highest : (n : ℕ) (words : List ℕ) (w k : ℕ) → 64 * w + k < n → k < 64 → 2 ^ k ≤ get_or words w 0 → get_or words w 0 < 2 * 2 ^ k
    → sets.contains (set_of n words) (64 * w + k) ≡ true
has_highest n words w k inside below low high =
    has_one n words w k inside below (ap (λ x. x % 2) (div-eq_of_lt-le {k = 1} (2 ^ k) {m = get_or words w 0} (omega arith) (omega arith)))

-- if all later words are zero, no rank of the set is above the rank of the highest 1 of word w
pub none_above_highest : (n : ℕ) (words : List ℕ) (w k q : ℕ) → get_or words w 0 < 2 * 2 ^ k → ((v : ℕ) → w < v → 64 * v < n → get_or words v 0 ≡ 0)
    → sets.contains (set_of n words) q ≡ true → q ≤ 64 * w + k
none_above_highest n words w k q high zeros there =
    let above = bit_at_above (get_or words w 0) (suc k) (q % 64) (subst (λ x. get_or words w 0 < x) (sym (pow-succ' 2 k)) high) in
    grind (arith, above, and_parts, has-set_of, eqb-true, ltb-true, cases_lt, cases_eq, bit_at-zero)

-- if all earlier words are zero, no rank of the set is below the rank of the lowest 1 of word w
pub none_below_lowest : (n : ℕ) (words : List ℕ) (w k q : ℕ) → k < 64 → ((i : ℕ) → i < k → bit_at (get_or words w 0) i ≡ 0)
    → ((v : ℕ) → v < w → get_or words v 0 ≡ 0) → sets.contains (set_of n words) q ≡ true → 64 * w + k ≤ q
none_below_lowest n words w k q below low zeros there = grind (arith, and_parts, has-set_of, eqb-true, cases_lt, cases_eq, bit_at-zero)

-- to set the bit of rank r adds the rank to the set
pub with_one : (words : List ℕ) (i r : ℕ) → AreWords 4 words → r < 256 → i ≡ r / 64
    → set_of 256 (set words i (bit_or (get_or words i 0) (1 * 2 ^ (r % 64) % 2 ^ 64))) ≡ sets.insert (set_of 256 words) r
with_one words i r a l e =
    rw e (set_of-set 256 words _ r l (omega (arith, a.count)) (bit_at_set_same w64 _ (r % 64) (omega arith))
    (λ i l ne. bit_at_set_other w64 _ (r % 64) (omega arith) i ne))

-- to clear the bit of rank r removes the rank from the set
pub without_one : (words : List ℕ) (i r : ℕ) → AreWords 4 words → r < 256 → i ≡ r / 64
    → set_of 256 (set words i (bit_and (get_or words i 0) (bit_not w64 (1 * 2 ^ (r % 64) % 2 ^ 64)))) ≡ sets.remove (set_of 256 words) r
without_one words i r a l e =
    rw e (set_of-clear 256 words _ r (omega (arith, a.count)) (bit_at_clear_same w64 _ (r % 64) (omega arith))
    (bit_at_clear_other w64 _ (r % 64) (omega arith)))

-- words in which a bit was set are words of 64 bits
pub with_fits : (words : List ℕ) (i k w : ℕ) → AreWords 4 words → i < 4 → w < 4
    → get_or (set words i (bit_or (get_or words i 0) (1 * 2 ^ k % 2 ^ 64))) w 0 < 2 ^ 64
with_fits words i k w a l inside = (put_words 4 words i _ a l (or_lt 64 _ _ (a.each i l) (omega arith))).each w inside

-- what it takes to set one bit, to clear it, and to read it
pub ruleset set_bit = (length-set, with_fits, with_one)

pub ruleset clear_bit = (common_steps, and_le_l, put_words, without_one)

pub ruleset read_bit = (shr_and_one, has-set_of, lt-ltb)

-- the index of the lowest 1 of a word that isn't 0
pub lowest_is : (word : ℕ) → 0 < word → word < 2 ^ 64
    → (trailing_zeros w64 word < 64) × (bit_at word (trailing_zeros w64 word) ≡ 1) × ((i : ℕ) → i < trailing_zeros w64 word → bit_at word i ≡ 0)
lowest_is = bit_at-trailing_zeros w64
