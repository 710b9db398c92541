-- Which items the lists of a report have, and in which order.
use Rattle.std.proofs.Common.{◌≡◌, ◌↔◌, ℕ, zero, suc, ◌<◌, Bool, true, List, [], ◌∷◌, ◌++◌, Option, Some, inl, inr, arith, refl, sym, ap, ◌∙◌, subst, rules}
use Rattle.std.specs.List.{All, Contains}
use Rattle.std.proofs.lemmas.Bool.{and_parts, and_from, not-true, both_ways, cases_eq, cases_order, Decides.nat_tests}
use Rattle.std.proofs.lemmas.List.Elements.{All-nil, All-cons, All-append, All-head, All-tail, All-weaker, All-contains, Contains-append_left, Contains-append_right, Contains-append_cases}
use Rattle.mml_rules.specs.{declared.rule.Kind.Kind, Configuration.Configuration, Configuration.IsLawful, Rules.is_married, Rules.enabled_kind, Matching.IsPair, Meaning.IsMarried}
use Rattle.mml_rules.proofs.{RulesLemmas.pointee_in, EnabledKindLemmas.guard-kind, EnabledKindLemmas.kind-guard, MeaningLemmas.married-means, MeaningLemmas.guard-means}
use Rattle.mml_stable.specs.{declared.open_link.OpenLink.OpenLink, Walk.certificate}
use Rattle.mml_stable.specs.Reports.{each_below, listed_if, pair_at, pairs, is_free, free_nodes, privileged_at, privileged_nodes, is_open, open_link, open_links_at, open_links, is_stable}
use Rattle.mml_stable.specs.Listed.{IsPairInOrder, IsFreeNode, IsPrivilegedBy, IsOpenLink, Rises, IsLinkBefore, HasEnd, IsMatched, IsMaximalMatching}
use Rattle.mml_stable.proofs.{MatchingLemmas.maximal, MatchingLemmas.stable-means, NamedLemmas.all_listed, NamedLemmas.all_below}

-- ---- the items of a list

in_nothing : {X : Type 0} (x : X) → Contains [] x → ⊥
in_nothing x h = absurd (omega arith)

in_one : {X : Type 0} (x y : X) → Contains (x ∷ []) y → x ≡ y
in_one x y h = All-contains (λ z. x ≡ z) (x ∷ []) y (All-cons (λ z. x ≡ z) x [] refl (All-nil (λ z. x ≡ z))) h

if_listed : {X : Type 0} (b : Bool) (x y : X) → Contains (listed_if b x) y → (b ≡ true) × (x ≡ y)
if_listed b x y h = grind (arith, nat_tests)

listed : {X : Type 0} (b : Bool) (x : X) → b ≡ true → Contains (listed_if b x) x
listed b x e = grind (arith, nat_tests)

below : {X : Type 0} (n : ℕ) (f : ℕ → List X) (x : X) → Contains (each_below n f) x → (i : ℕ) × (i < n) × Contains (f i) x
below zero f x h = absurd (in_nothing x h)
below (suc n) f x h = grind (arith, Contains-append_cases (each_below n f) (f n) x h, below n f x)

at_below : {X : Type 0} (n : ℕ) (f : ℕ → List X) (x : X) (i : ℕ) → i < n → Contains (f i) x → Contains (each_below n f) x
at_below zero f x i l h = absurd (omega arith)
at_below (suc n) f x i l h =
    grind (arith, cases_eq i n, Contains-append_right (each_below n f) (f n) x, Contains-append_left (each_below n f) (f n) x, at_below n f x i)

-- ---- the order of a list

rises_append : {X : Type 0} (R : X → X → Type 0) (xs ys : List X) → Rises R xs → Rises R ys → All (λ x. All (R x) ys) xs → Rises R (xs ++ ys)
rises_append R [] ys hx hy between = hy
rises_append R (x ∷ xs) ys hx hy between =
    (All-append (R x) xs ys hx.0 (All-head (λ x. All (R x) ys) x xs between), rises_append R xs ys hx.1 hy (All-tail (λ x. All (R x) ys) x xs between))

-- if the items for each number are in order and have this number as their key, the items for all numbers below n are in
-- order
module _ {X : Type 0} (R : X → X → Type 0) (key : X → ℕ) (f : ℕ → List X) (keyed : (i : ℕ) → All (λ x. key x ≡ i) (f i))
    (lower : (x y : X) → key x < key y → R x y) (each : (i : ℕ) → Rises R (f i)) where
  rises_below : (n : ℕ) → Rises R (each_below n f)
  rises_below zero = tt
  rises_below (suc n) = rises_append R (each_below n f) (f n) (rises_below n) (each n)
      (All-weaker (λ x. key x < n) (λ x. All (R x) (f n)) (λ x l. All-weaker (λ y. key y ≡ n) (R x) (λ y e. lower x y (omega arith)) (f n) (keyed n))
      (each_below n f)
      (all_below (λ x. key x < n) n f (λ i l. All-weaker (λ x. key x ≡ i) (λ x. key x < n) (λ x e. omega arith) (f i) (keyed i))))

-- ---- the pairs

module _ (c : Configuration) (l : IsLawful c) where
  pair_from : (i : ℕ) (o : Option ℕ) (p : ℕ × ℕ) → c.p i ≡ o → Contains (pair_at c i o) p → IsPairInOrder c p
  pair_from i o p e h = grind (arith, nat_tests, in_nothing, if_listed)

  pub pairs_listed : (p : ℕ × ℕ) → Contains (pairs c) p ↔ IsPairInOrder c p
  pairs_listed p = (
    (λ h. let r = below c.size (λ i. pair_at c i (c.p i)) p h in pair_from r.0 (c.p r.0) p refl r.2),
    (λ h. at_below c.size (λ i. pair_at c i (c.p i)) p p.0 (pointee_in c p.1 p.0 l h.1.1) (grind (arith, nat_tests, listed, and_from))),
  )

  pub free_listed : (i : ℕ) → Contains (free_nodes c) i ↔ IsFreeNode c i
  free_listed i = (
    (λ h. grind (arith, nat_tests, below c.size (λ i. listed_if (is_free c i) i) i h, if_listed, both_ways, not-true, married-means)),
    (λ h. at_below c.size (λ i. listed_if (is_free c i) i) i i h.0 (grind (arith, nat_tests, listed {X = ℕ} (is_free c i), married-means c i l))),
  )

  privileged_from : (i : ℕ) (o : Option Kind) (p : ℕ × Kind) → i < c.size → enabled_kind c i ≡ o → Contains (privileged_at i o) p → IsPrivilegedBy c p
  privileged_from i o p lt e h = grind (arith, nat_tests, in_nothing, in_one, kind-guard c i, guard-means c i)

  pub privileged_listed : (p : ℕ × Kind) → Contains (privileged_nodes c) p ↔ IsPrivilegedBy c p
  privileged_listed p = (
    (λ h. let r = below c.size (λ i. privileged_at i (enabled_kind c i)) p h in privileged_from r.0 (enabled_kind c r.0) p r.1 refl r.2),
    (λ h. at_below c.size (λ i. privileged_at i (enabled_kind c i)) p p.0 h.0
        (grind (arith, nat_tests, enabled_kind c p.0, guard-kind c p.0 h.1.0 l ((guard-means c p.0 h.1.0 l).1 h.1.2) ∙ ap Some h.1.1))),
  )

  free_means : (i : ℕ) → is_free c i ≡ true → ¬ IsMarried c i
  free_means i h m = both_ways (is_married c i) (not-true (is_married c i) h) ((married-means c i l).1 m)

  -- a link with the ends and the witness of k is k
  is_that_link : (k : OpenLink) (w : ℕ × Kind) → (k.node, k.kind) ≡ w → record { a = k.a; b = k.b; node = w.0; kind = w.1 } ≡ k
  is_that_link k w e = λ z. record { a = k.a; b = k.b; node = (sym e z).0; kind = (sym e z).1 }

  pub open_listed : (k : OpenLink) → Contains (open_links c) k ↔ IsOpenLink c k
  open_listed k = (
    (λ h.
        let a = below c.size (open_links_at c) k h in
        let b = below c.size (λ b. listed_if (is_open c a.0 b) (open_link c a.0 b)) k a.2 in
        grind (arith, nat_tests, if_listed (is_open c a.0 b.0) (open_link c a.0 b.0) k b.2, and_parts, free_means)),
    (λ o.
        let ends = l.in_range k.a k.b o.linked in
        at_below c.size (open_links_at c) k k.a ends.0 (at_below c.size (λ b. listed_if (is_open c k.a b) (open_link c k.a b)) k k.b ends.1
        (subst (Contains (listed_if (is_open c k.a k.b) (open_link c k.a k.b))) (is_that_link k (certificate c k.a k.b) o.witness)
        (listed (is_open c k.a k.b) (open_link c k.a k.b) (grind (arith, nat_tests, o, married-means c k.a l, married-means c k.b l)))))),
  )

  -- ---- the pairs of a stable configuration

  pub listed_matching : is_stable c ≡ true → IsMaximalMatching c (pairs c)
  listed_matching s = record {
    linked = λ p h. l.to_linked p.0 p.1 ((pairs_listed p).0 h).1.0;
    apart = λ p q i hp hq ep eq. one p q i ((pairs_listed p).0 hp) ((pairs_listed q).0 hq) ep eq;
    maximal = λ a b linked. elim (maximal c l ((stable-means c).0 s) a b linked) [ inl j ↦ inl (matched a j.0 j.1) | inr j ↦ inr (matched b j.0 j.1) ];
  }
    where
      matched : (i j : ℕ) → IsPair c i j → IsMatched (pairs c) i
      matched i j p = grind (arith, cases_order i j, pairs_listed (i, j), pairs_listed (j, i), l.no_loop i, l.to_linked i j)

      one : (p q : ℕ × ℕ) (i : ℕ) → IsPairInOrder c p → IsPairInOrder c q → HasEnd i p → HasEnd i q → p ≡ q
      one p q i hp hq ep eq = grind (arith, nat_tests)

-- ---- each list is in rising order

module _ (c : Configuration) where
  pub pairs_rise : Rises (λ p q. p.0 < q.0) (pairs c)
  pairs_rise =
      rises_below (λ p q. p.0 < q.0) (λ p. p.0) (λ i. pair_at c i (c.p i)) (λ i. grind (arith, nat_tests)) (λ x y l. l) (λ i. grind (arith, nat_tests)) c.size

  pub free_rise : Rises (λ i j. i < j) (free_nodes c)
  free_rise =
      rises_below (λ i j. i < j) (λ i. i) (λ i. listed_if (is_free c i) i) (λ i. all_listed (λ j. j ≡ i) (is_free c i) i (λ _. refl)) (λ x y l. l)
      (λ i. grind (arith, nat_tests)) c.size

  pub privileged_rise : Rises (λ p q. p.0 < q.0) (privileged_nodes c)
  privileged_rise =
      rises_below (λ p q. p.0 < q.0) (λ p. p.0) (λ i. privileged_at i (enabled_kind c i)) (λ i. grind (arith, nat_tests)) (λ x y l. l)
      (λ i. grind (arith, nat_tests)) c.size

  -- the open links in the list for a have a as their lower end
  links_have_a : (a : ℕ) → All (λ k. k.a ≡ a) (open_links_at c a)
  links_have_a a = search (rules, all_below, all_listed)

  strengthen : (a : ℕ) (ks : List OpenLink) → All (λ k. k.a ≡ a) ks → Rises (λ k l. k.b < l.b) ks → Rises IsLinkBefore ks
  strengthen a [] h r = tt
  strengthen a (k ∷ ks) h r =
      let here = All-head (λ k. k.a ≡ a) k ks h in
      let rest = All-tail (λ k. k.a ≡ a) k ks h in
      ((λ i d lt. inr (here ∙ sym (rest i d lt), r.0 i d lt)), strengthen a ks rest r.1)

  pub open_rise : Rises IsLinkBefore (open_links c)
  open_rise = rises_below IsLinkBefore (λ k. k.a) (open_links_at c) links_have_a (λ x y l. inl l) (λ a. strengthen a (open_links_at c a) (links_have_a a)
      (rises_below (λ k l. k.b < l.b) (λ k. k.b) (λ b. listed_if (is_open c a b) (open_link c a b))
      (λ b. all_listed (λ k. k.b ≡ b) (is_open c a b) (open_link c a b) (λ _. refl)) (λ x y l. l)
      (λ b. grind (arith, nat_tests)) c.size)) c.size
