-- Sums and counts below a number.
use Rattle.std.proofs.Common.{◌≡◌, ℕ, zero, suc, ◌+◌, ◌*◌, ◌-◌, ◌<◌, ◌≤◌, Bool, true, false, cond, nat_lt, ◌&&◌, ◌||◌, ◌==◌, refl, arith}
use Rattle.std.proofs.lemmas.Bool.Decides.{nat_tests}
use Rattle.mml_ids.specs.Search.{count_below}
use Rattle.mml_convergence.specs.Potential.{sum_below}

-- if each term f j is at most g j, the sum of f is at most the sum of g
pub sum_kept : (n : ℕ) (f g : ℕ → ℕ) → ((j : ℕ) → j < n → f j ≤ g j) → sum_below n f ≤ sum_below n g
sum_kept zero f g le = omega arith
sum_kept (suc n) f g le = omega (arith, sum_kept n f g (λ j lt. le j (omega arith)), le n)

-- if no term rises, and one term falls, the sum falls by at least 1
pub sum_fell : (n k : ℕ) (f g : ℕ → ℕ) → ((j : ℕ) → j < n → f j ≤ g j) → k < n → f k + 1 ≤ g k → sum_below n f + 1 ≤ sum_below n g
sum_fell zero k f g le lt less = absurd (omega arith)
sum_fell (suc n) k f g le lt less = grind (arith, nat_tests, sum_kept, sum_fell n k f g)

-- if each term f j is at least t j less than g j, the sum of f is at least the sum of t less than the sum of g
pub sum_charged : (n : ℕ) (t f g : ℕ → ℕ) → ((j : ℕ) → f j + t j ≤ g j) → sum_below n f + sum_below n t ≤ sum_below n g
sum_charged zero t f g le = omega arith
sum_charged (suc n) t f g le = omega (arith, sum_charged n t f g le, le n)

-- if each term f j is at most 3 + 2 * g j, the sum of f is at most 3 * n and twice the sum of g
pub sum_most : (n : ℕ) (f g : ℕ → ℕ) → ((j : ℕ) → f j ≤ 3 + 2 * g j) → sum_below n f ≤ 3 * n + 2 * sum_below n g
sum_most zero f g le = omega arith
sum_most (suc n) f g le = omega (arith, sum_most n f g le, le n)

-- if f j is at most 2, or 3 if j passes u, the sum of f over the numbers that pass t is at most 2 for each, and 1 for
-- each that also passes u
pub sum_parts : (n : ℕ) (t u : ℕ → Bool) (f : ℕ → ℕ) → ((j : ℕ) → f j ≤ 2 + cond (u j) 1 0)
    → sum_below n (λ j. cond (t j) (f j) 0) ≤ 2 * count_below n t + count_below n (λ j. t j && u j)
sum_parts zero t u f le = omega arith
sum_parts (suc n) t u f le = grind (arith, sum_parts n t u f le, le n)

-- if no number below n passes, none is counted
pub count_none : (n : ℕ) (t : ℕ → Bool) → ((j : ℕ) → j < n → t j ≡ false) → count_below n t ≡ 0
count_none zero t off = refl
count_none (suc n) t off = grind (arith, count_none n t, off)

-- if a test is true of at most one number, at most one is counted
pub count_one_at_most : (n k : ℕ) (t : ℕ → Bool) → ((j : ℕ) → t j ≡ true → j ≡ k) → count_below n t ≤ 1
count_one_at_most zero k t only = omega arith
count_one_at_most (suc n) k t only = grind (arith, count_one_at_most n k t only, count_none n t, only n)

-- if some number below n passes, at least one is counted
pub count_some : (n i : ℕ) (t : ℕ → Bool) → i < n → t i ≡ true → 1 ≤ count_below n t
count_some zero i t lt on = absurd (omega arith)
count_some (suc n) i t lt on = grind (arith, count_some n i t)

-- ---- pairs of numbers, counted by their first or by their second number

pub sum_zero : (n : ℕ) → sum_below n (λ i. 0) ≡ 0
sum_zero zero = refl
sum_zero (suc n) = omega (arith, sum_zero n)

-- the pairs (i, k) with k < n + 1 are those with k = n and those with k < n
pub one_column : (R : ℕ → ℕ → Bool) (r n : ℕ) → sum_below r (λ i. count_below (suc n) (R i)) ≡ count_below r (λ i. R i n) + sum_below r (λ i. count_below n (R i))
one_column R zero n = refl
one_column R (suc r) n = omega (arith, one_column R r n)

-- the pairs that pass are as many if they are counted by their first number as by their second
pub sum_turned : (R : ℕ → ℕ → Bool) (r n : ℕ) → sum_below r (λ i. count_below n (R i)) ≡ sum_below n (λ k. count_below r (λ i. R i k))
sum_turned R r zero = sum_zero r
sum_turned R r (suc n) = omega (arith, sum_turned R r n, one_column R r n)

-- the sum of f i + g i is the sum of f plus the sum of g
pub sum_split : (n : ℕ) (f g : ℕ → ℕ) → sum_below n (λ i. f i + g i) ≡ sum_below n f + sum_below n g
sum_split zero f g = refl
sum_split (suc n) f g = omega (arith, sum_split n f g)

-- a sum with 1 for each number that passes, and 0 for the others, is the number of those that pass
pub sum_of_tests : (n : ℕ) (t : ℕ → Bool) → sum_below n (λ i. cond (t i) 1 0) ≡ count_below n t
sum_of_tests zero t = refl
sum_of_tests (suc n) t = omega (arith, sum_of_tests n t)

-- ---- the numbers between two bounds, and those that pass one of two tests

module _ (a z : ℕ) (t : ℕ → Bool) (le : a ≤ z) (on : (i : ℕ) → a ≤ i → i < z → t i ≡ true) (only : (i : ℕ) → t i ≡ true → (a ≤ i) × (i < z)) where
  -- the numbers below n that pass, and those that are less than a or at least z, are n numbers together
  within : (n : ℕ) → count_below n t + cond (nat_lt n a) n (cond (nat_lt n z) a (n - (z - a))) ≡ n
  within zero = grind (arith, nat_tests)
  within (suc n) = grind (arith, nat_tests, within n, on n, only n)

  -- if n is at least z, z - a numbers below n pass
  pub count_between : (n : ℕ) → z ≤ n → a + count_below n t ≡ z
  count_between n past = grind (arith, nat_tests, within n)

-- exactly one number below n is i
pub count_one : (i n : ℕ) → i < n → count_below n (λ j. j == i) ≡ 1
count_one i n lt = omega (arith, count_between i (suc i) (λ j. j == i) (omega arith) (grind (arith, nat_tests)) (grind (arith, nat_tests)) n lt)

-- if no number passes both tests, the count of the numbers that pass either test is the sum of the two counts
pub count_either : (n : ℕ) (t u : ℕ → Bool) → ((i : ℕ) → t i ≡ true → u i ≡ false) → count_below n (λ i. t i || u i) ≡ count_below n t + count_below n u
count_either zero t u apart = refl
count_either (suc n) t u apart = grind (arith, count_either n t u apart, apart n)
