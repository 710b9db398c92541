-- The ranks of a set in rising order, and a set without one of its ranks.
use Rattle.std.proofs.Common.{◌≡◌, ◌≢◌, ℕ, zero, suc, ◌+◌, ◌<◌, ◌≤◌, Bool, true, false, cond, List, [], ◌∷◌, ◌++◌, map, filter, sym, refl, ap, ◌∙◌, arith, append-nil, append_assoc}
use Rattle.std.proofs.lemmas.{Bool.cases_Bool, List.map-id, List.FromFn.filter_of_map_range_with_len_more, Bool.cases_eq, Bool.eq-eqb, Bool.ne_eqb, List.map-append}
use Rattle.std.specs.{List.range_with_len, Cmp.nat_cmp_total, Ordering.nat_cmp, FinSet.FinSet}
use Rattle.mml_ids.specs.inside.WordsLemmas.{has_empty, has_remove}
use Rattle.std.specs.FinSet as sets

-- the ranks below n that are in the set
abbrev pub ranks_in : ℕ → FinSet nat_cmp → List ℕ
ranks_in n s = filter (sets.contains s) (range_with_len 0 n)

same_from : (t u : ℕ → Bool) (k n : ℕ) → ((q : ℕ) → k ≤ q → t q ≡ u q) → filter t (range_with_len k n) ≡ filter u (range_with_len k n)
same_from t u k zero h = refl
same_from t u k (suc n) h = grind (arith, same_from t u (k + 1) n)

-- let a be the first number that passes t, and let u pass the same numbers except a; the numbers that pass t are then
-- a, followed by those that pass u
first_passes : (t u : ℕ → Bool) (k n a : ℕ) → k ≤ a → a < k + n → t a ≡ true → u a ≡ false → ((q : ℕ) → q ≢ a → t q ≡ u q) → ((q : ℕ) → q < a → t q ≡ false)
    → filter t (range_with_len k n) ≡ a ∷ filter u (range_with_len k n)
first_passes t u k zero a from below here gone others before = absurd (omega arith)
first_passes t u k (suc n) a from below here gone others before = grind (arith, cases_eq, same_from, first_passes t u (k + 1) n a)

-- the ranks of a set in rising order are its least rank, followed by the ranks of the set without it
pub least_first : (n : ℕ) (s rest : FinSet nat_cmp) (a : ℕ) → sets.contains s a ≡ true → ((q : ℕ) → sets.contains s q ≡ true → a ≤ q) → a < n
    → rest ≡ sets.remove s a → ranks_in n s ≡ a ∷ ranks_in n rest
least_first n s rest a there least below removed =
    first_passes (sets.contains s) (sets.contains rest) 0 n a (omega arith) (omega arith) there (grind (arith, has_remove, eq-eqb a a))
    (λ q ne. grind (arith, has_remove, ne_eqb q a)) (λ q lt. grind (arith, least q, cases_Bool))

none_pass : (xs : List ℕ) → filter (λ q. false) xs ≡ []
none_pass [] = refl
none_pass (x ∷ xs) = none_pass xs

pub no_ranks : (n : ℕ) (s : FinSet nat_cmp) → s ≡ sets.empty → ranks_in n s ≡ []
no_ranks n s e = same_from (sets.contains s) (λ q. false) 0 n (λ q l. ap (λ r. sets.contains r q) e ∙ has_empty q) ∙ none_pass (range_with_len 0 n)

-- ---- a loop that takes out the least rank and appends a value for it

-- if the loop takes out the least rank and appends its value, the list so far, followed by the values of the remaining
-- ranks, stays the same
pub one_put : {X : Type 0} (f : ℕ → X) (n : ℕ) (left rest : FinSet nat_cmp) (a : ℕ) (held pushed whole : List X) → sets.contains left a ≡ true
    → ((q : ℕ) → sets.contains left q ≡ true → a ≤ q) → a < n → rest ≡ sets.remove left a
    → pushed ≡ held ++ f a ∷ [] → held ++ map f (ranks_in n left) ≡ whole → pushed ++ map f (ranks_in n rest) ≡ whole
one_put f n left rest a held pushed whole there least below removed put so_far = grind (arith, append_assoc, least_first)

-- if no rank is left, the list so far is the whole list
pub all_put : {X : Type 0} (f : ℕ → X) (n : ℕ) (left : FinSet nat_cmp) (held whole : List X) → left ≡ sets.empty
    → held ++ map f (ranks_in n left) ≡ whole → held ≡ whole
all_put f n left held whole none so_far = sym (append-nil held) ∙ sym (ap (λ xs. held ++ map f xs) (no_ranks n left none)) ∙ so_far

-- ---- from n to n + 1

-- the values of f at the numbers below n that pass the test, in rising order
abbrev pub passing : {X : Type 0} → (ℕ → Bool) → (ℕ → X) → ℕ → List X
passing t f n = map f (filter t (range_with_len 0 n))

-- for n + 1, `passing` is the list for n with the value of n appended if n passes
pub passing_more : {X : Type 0} (t : ℕ → Bool) (f : ℕ → X) (n : ℕ) → passing t f (n + 1) ≡ passing t f n ++ map f (cond (t n) (n ∷ []) [])
passing_more t f n =
    grind (arith, map-id (range_with_len 0 n), map-id (range_with_len 0 (n + 1)), filter_of_map_range_with_len_more t (λ k. k) 0 n n, map-append)

-- ---- a set without one of its ranks

-- a set has one rank more than the set without one of its ranks
pub len_remove_one : (s : FinSet nat_cmp) (a : ℕ) → sets.contains s a ≡ true → sets.len s ≡ sets.len (sets.remove s a) + 1
len_remove_one s a h = grind (arith, sets.len-remove nat_cmp_total s a, sets.empty_of_len s, has_empty a, cases_eq (sets.len s) 0)
