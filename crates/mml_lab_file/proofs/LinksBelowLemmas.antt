-- The number of pairs of numbers that pass a test, and how one more pair changes it.
use Rattle.std.proofs.Common.{◌≡◌, ◌≢◌, ℕ, zero, suc, ◌+◌, ◌<◌, Bool, true, false, cond, refl, sym, ap, ◌∙◌, arith, inl, inr}
use Rattle.std.proofs.lemmas.Bool.{cases_eq}
use Rattle.mml_rules.specs.Configuration.{Configuration}
use Rattle.mml_ids.specs.Search.{count_below}
use Rattle.mml_ids.proofs.SearchLemmas.{count_same}
use Rattle.mml_lab.specs.Labs.{links_below}

-- the number of pairs (i, j) with j < i < n that pass the test
abbrev pub pairs_below : (ℕ → ℕ → Bool) → ℕ → ℕ
pairs_below test zero = 0
pairs_below test (suc n) = pairs_below test n + count_below n (test n)

-- the number of links is the number of pairs of linked nodes
pub links_below-pairs : (c : Configuration) (n : ℕ) → links_below c n ≡ pairs_below c.linked n
links_below-pairs c zero = refl
links_below-pairs c (suc n) = ap (λ k. k + count_below n (c.linked n)) (links_below-pairs c n)

tally : (b c : Bool) → b ≡ c → cond {A = ℕ} b 1 0 ≡ cond c 1 0
tally b c e = ap (λ x. cond x 1 0) e

-- if two tests agree except at k, where only the second is true, the second counts one number more
count_one : (n k : ℕ) (s t : ℕ → Bool) → k < n → s k ≡ false → t k ≡ true → ((j : ℕ) → j < n → j ≢ k → s j ≡ t j) → count_below n t ≡ count_below n s + 1
count_one zero k s t lt off on same = absurd (omega arith)
count_one (suc n) k s t lt off on same = grind (arith, cases_eq, count_same, tally, count_one n k s t)

-- two tests that agree on the pairs below n count the same number of pairs
pub pairs_same : (n : ℕ) (s t : ℕ → ℕ → Bool) → ((i j : ℕ) → i < n → j < i → s i j ≡ t i j) → pairs_below s n ≡ pairs_below t n
pairs_same zero s t same = refl
pairs_same (suc n) s t same = grind (arith, count_same, pairs_same n s t)

-- if two tests agree except at the pair (a, b), where only the second is true, the second counts one pair more
pub pairs_one : (n a b : ℕ) (s t : ℕ → ℕ → Bool) → a < n → b < a → s a b ≡ false → t a b ≡ true
    → ((i j : ℕ) → i < n → j < i → ¬ ((i ≡ a) × (j ≡ b)) → s i j ≡ t i j) → pairs_below t n ≡ pairs_below s n + 1
pairs_one zero a b s t lt less off on same = absurd (omega arith)
pairs_one (suc n) a b s t lt less off on same = elim (cases_eq a n) [
  | inl here ↦
      let rest = pairs_same n s t (λ i j in_i below. same i j (omega arith) below (λ both. let e = both.0 in omega arith)) in
      let last = count_one n b (s n) (t n) (omega arith) (ap (λ i. s i b) (sym here) ∙ off) (ap (λ i. t i b) (sym here) ∙ on)
      (λ j below other. same n j (omega arith) below (λ both. other both.1)) in
      omega (arith, rest, last)
  | inr ne ↦ grind (arith, count_same, pairs_one n a b s t)
]

-- if no pair passes, the number of pairs is 0
pub no_pairs : (n : ℕ) → pairs_below (λ i j. false) n ≡ 0
no_pairs zero = refl
no_pairs (suc n) = let rest = no_pairs n in let last = nothing n in omega (arith, rest, last)
  where
    nothing : (n : ℕ) → count_below n (λ j. false) ≡ 0
    nothing zero = refl
    nothing (suc n) = let rest = nothing n in omega (arith, rest)
