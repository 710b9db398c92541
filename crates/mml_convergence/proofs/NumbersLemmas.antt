-- Sums, counts, and how the greatest number of courtships grows with the number of nodes.
use Rattle.std.proofs.Common.{◌≡◌, ℕ, zero, suc, ◌+◌, ◌*◌, ◌≤◌, Bool, true, cond, not, refl, arith}
use Rattle.std.proofs.lemmas.Bool.{cases_eq, Decides.nat_tests}
use Rattle.mml_ids.specs.Search.{count_below}
use Rattle.mml_convergence.specs.{Potential.sum_below, Courtships.most_courtships}

-- if f j + t j is at most g j + b j for each j, the same holds of the sums
pub sum_lent : (n : ℕ) (f t g b : ℕ → ℕ) → ((j : ℕ) → f j + t j ≤ g j + b j) → sum_below n f + sum_below n t ≤ sum_below n g + sum_below n b
sum_lent zero f t g b le = omega arith
sum_lent (suc n) f t g b le = omega (arith, sum_lent n f t g b le, le n)

-- the numbers below n that pass a test, and those that don't, are n numbers together
pub count_both : (n : ℕ) (t : ℕ → Bool) → count_below n t + count_below n (λ i. not (t i)) ≡ n
count_both zero t = refl
count_both (suc n) t = grind (arith, count_both n t)

-- if t implies u, the numbers that pass only u and the numbers that pass t are together as many as the numbers that
-- pass u; both sides also count 2 for each number that fails u
pub count_lent : (n : ℕ) (t u : ℕ → Bool) → ((j : ℕ) → t j ≡ true → u j ≡ true)
    → sum_below n (λ i. cond (u i) (cond (t i) 0 1) 2) + count_below n t ≡ count_below n u + 2 * count_below n (λ i. not (u i))
count_lent zero t u kept = refl
count_lent (suc n) t u kept = grind (arith, count_lent n t u kept, kept n)

-- ---- the greatest number of courtships

-- with one node more, the greatest number of courtships isn't lower
pub courtships_rise : (n : ℕ) → most_courtships n ≤ most_courtships (suc n)
courtships_rise zero = omega arith
courtships_rise (suc zero) = omega arith
courtships_rise (suc (suc n)) = let rest = courtships_rise n in omega (arith, rest)

-- with more nodes, the greatest number of courtships isn't lower
pub courtships_kept : (n u : ℕ) → n ≤ u → most_courtships n ≤ most_courtships u
courtships_kept n zero le = grind (arith, nat_tests)
courtships_kept n (suc u) le = grind (arith, nat_tests, courtships_kept n u, courtships_rise u, cases_eq n (suc u))

courtships_more : (n : ℕ) → 1 ≤ n → most_courtships n + 1 ≤ most_courtships (suc n)
courtships_more n le = grind (arith, nat_tests, courtships_rise)

-- if n is at most u - 2, twice the greatest number of courtships is lower for n nodes than for u, by at least 1 for
-- each of the u - n nodes and 2 for each of the n
pub marriages_pay : (n u : ℕ) → n + 2 ≤ u → 2 * most_courtships n + (n + u) ≤ 2 * most_courtships u
marriages_pay n (suc (suc u)) le = grind (arith, nat_tests, marriages_pay n (suc u), courtships_more (suc u), cases_eq n u)
marriages_pay n _ le = absurd (omega (arith, le))

-- ---- the greatest number of courtships for an even and for an odd number of nodes

pub courtships_even : (k : ℕ) → most_courtships (2 * k) ≡ k * k
courtships_even zero = refl
courtships_even (suc k) = let rest = courtships_even k in let e : suc (suc (2 * k)) ≡ 2 * suc k = omega arith in grind (arith, nat_tests)

pub courtships_odd : (k : ℕ) → most_courtships (2 * k + 1) ≡ k * k + k
courtships_odd zero = refl
courtships_odd (suc k) = let rest = courtships_odd k in let e : suc (suc (2 * k + 1)) ≡ 2 * suc k + 1 = omega arith in grind (arith, nat_tests)
