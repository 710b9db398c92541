-- Counts that are sums of two counts.
use Rattle.std.proofs.Common.{◌≡◌, ℕ, zero, suc, ◌+◌, ◌<◌, Bool, ◌&&◌, cond, eqb, List, ◌∷◌, refl, ◌∙◌, arith}
use Rattle.std.{specs.Prelude.count_by, specs.List.filter, proofs.lemmas.Bool.Decides.nat_tests, proofs.lemmas.List.Sums.sum_by-cons}
use Rattle.mml_ids.specs.Search.{count_below}
use Rattle.mml_convergence.proofs.SumsLemmas.{count_none, sum_of_tests}
use Rattle.mml_convergence.specs.Potential.{sum_below}

abbrev pub one : Bool → ℕ
one b = cond b 1 0

-- the count of a list is that of its tail, and 1 more if its first element passes the test
pub more : {A : Type 0} (p : A → Bool) (x : A) (xs : List A) → count_by p (x ∷ xs) ≡ one (p x) + count_by p xs
more p x xs = sum_by-cons (λ x. cond (p x) 1 0) x xs

-- if u and v never hold together, and t holds exactly if one of them does, the count for t is the sum of theirs
pub count_split : (n : ℕ) (t u v : ℕ → Bool) → ((j : ℕ) → j < n → one (t j) ≡ one (u j) + one (v j)) → count_below n t ≡ count_below n u + count_below n v
count_split zero t u v apart = refl
count_split (suc n) t u v apart = omega (arith, count_split n t u v (λ j lt. apart j (omega arith)), apart n (omega arith))

-- among the numbers below n, if b is true, exactly one is k
pub only_one : (n k : ℕ) (b : Bool) → k < n → count_below n (λ j. eqb k j && b) ≡ one b
only_one zero k b lt = absurd (omega arith)
only_one (suc n) k b lt = grind (arith, nat_tests, only_one n k b, count_none n (λ j. eqb k j && b))

-- `only_one` as a sum
pub sum_one : (n k : ℕ) (b : Bool) → k < n → sum_below n (λ j. one (eqb k j && b)) ≡ one b
sum_one n k b lt = sum_of_tests n (λ j. eqb k j && b) ∙ only_one n k b lt

-- an element x that is kept if b is true adds 1 to the count if b is true and x passes the test
pub kept : {A : Type 0} (p : A → Bool) (x : A) (xs : List A) (b : Bool) → count_by p (cond b (x ∷ xs) xs) ≡ one (b && p x) + count_by p xs
kept p x xs b = grind (arith, nat_tests, more p x xs)

-- one more element x adds 1 to the sum of the counts for all s below n, for each s that keeps x, if x passes the test
pub sum_more : {A : Type 0} (keeps : ℕ → A → Bool) (p : A → Bool) (n : ℕ) (x : A) (xs : List A) → sum_below n (λ s. count_by p (filter (keeps s) (x ∷ xs)))
    ≡ sum_below n (λ s. one (keeps s x && p x)) + sum_below n (λ s. count_by p (filter (keeps s) xs))
sum_more keeps p zero x xs = refl
sum_more keeps p (suc n) x xs = omega (arith, sum_more keeps p n x xs, kept p x (filter (keeps n) xs) (keeps n x))
