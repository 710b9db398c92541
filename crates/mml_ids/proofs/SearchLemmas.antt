-- Searching the numbers below a bound, and searching a list.
use Rattle.std.proofs.Common.{◌≡◌, ℕ, zero, suc, ◌+◌, ◌-◌, ◌<◌, ◌≤◌, Option, Some, None, Bool, true, false, cond, List, length, get_or, nat_lt, refl, sym, ap, ◌∙◌, zero-add, suc-add, add_comm, arith}
use Rattle.std.{specs.List.position, proofs.lemmas.List.Sums.position_or_len_is, proofs.lemmas.List.Sums.fails_before_first}
use Rattle.std.proofs.lemmas.Bool.{or_cases, or_left, or_right, or_parts, false≢true, cases_order, cases_Bool, lt-ltb, le-ltb, ltb-false, false_from_ne_true, cond_both}
use Rattle.mml_ids.specs.Search.{first_from, first_below, some_below, greatest_below, count_below}

-- what the result of a search of the n numbers from s on says of the test
abbrev Answers : (ℕ → Bool) → ℕ → ℕ → Option ℕ → Type 0
Answers test s n None = (i : ℕ) → s ≤ i → i < s + n → test i ≡ false
Answers test s n (Some k) = (s ≤ k) × (k < s + n) × (test k ≡ true) × ((i : ℕ) → s ≤ i → i < k → test i ≡ false)

one_later : (test : ℕ → Bool) (s n : ℕ) (o : Option ℕ) → test s ≡ false → Answers test (s + 1) n o → Answers test s (suc n) o
one_later test s n None e h = λ i le lt. grind (arith, cases_order i s)
one_later test s n (Some k) e h = (omega arith, omega arith, h.2, λ i le lt. grind (arith, cases_order i s))

answers : (test : ℕ → Bool) (s n : ℕ) → Answers test s n (first_from test s n)
answers test s zero = λ i le lt. absurd (omega arith)
answers test s (suc n) =
    cond_both (test s) (Some s) (first_from test (s + 1) n) (Answers test s (suc n)) (λ e. (omega arith, omega arith, e, λ i le lt. absurd (omega arith)))
    (λ e. one_later test s n (first_from test (s + 1) n) e (answers test (s + 1) n))

-- if the search below n finds k, then k is below n and passes, and no number before k passes
pub first-is : (test : ℕ → Bool) (n k : ℕ) → first_below test n ≡ Some k → (k < n) × (test k ≡ true) × ((i : ℕ) → i < k → test i ≡ false)
first-is test n k found = grind (arith, answers test 0 n)

-- if k is below n and passes, and no number before k passes, the search below n finds k
pub first-at : (test : ℕ → Bool) (n k : ℕ) → k < n → test k ≡ true → ((i : ℕ) → i < k → test i ≡ false) → first_below test n ≡ Some k
first-at test n k lt here before = grind (arith, answers test 0 n, cases_order)

-- if the search below n finds none, no number below n passes
pub none-is : (test : ℕ → Bool) (n : ℕ) → first_below test n ≡ None → (i : ℕ) → i < n → test i ≡ false
none-is test n none i lt = grind (arith, answers test 0 n)

-- if no number below n passes, the search finds none
pub none-at : (test : ℕ → Bool) (n : ℕ) → ((i : ℕ) → i < n → test i ≡ false) → first_below test n ≡ None
none-at test n nowhere = grind (arith, answers test 0 n)

-- if n isn't 0, a search of n numbers from k on finds k if k passes, and otherwise goes on from k + 1
next_step : (bad : ℕ → Bool) (k n m : ℕ) → n ≡ suc m → first_from bad k n ≡ cond (bad k) (Some k) (first_from bad (k + 1) m)
next_step bad k n m e = rw e

-- if k passes, a search from k on finds k
pub first_here : (bad : ℕ → Bool) (k n : ℕ) → k < n → bad k ≡ true → first_from bad k (n - k) ≡ Some k
first_here bad k n h e = next_step bad k (n - k) (n - (k + 1)) (omega arith) ∙ rw e

-- if k doesn't pass, a search from k + 1 on has the same result as a search from k on
pub first_next : (bad : ℕ → Bool) (k n : ℕ) → k < n → bad k ≡ false → first_from bad (k + 1) (n - (k + 1)) ≡ first_from bad k (n - k)
first_next bad k n h e = sym (next_step bad k (n - k) (n - (k + 1)) (omega arith) ∙ rw e)

-- a search for numbers below n finds none if it starts at n or at a greater number
pub first_end : (bad : ℕ → Bool) (k n : ℕ) → n ≤ k → first_from bad k (n - k) ≡ None
first_end bad k n h = let e : n - k ≡ 0 = omega arith in rw e

-- if no element passes, `position` returns no index
pub position-none : {X : Type 0} (p : X → Bool) (xs : List X) (d : X) → ((k : ℕ) → k < length xs → p (get_or xs k d) ≡ false) → position p xs ≡ None
position-none p xs d nowhere =
    rw (position_or_len_is p xs (length xs) d (omega arith) nowhere (λ lt. absurd (omega arith)), le-ltb (length xs) (length xs) (omega arith)) refl

-- if the element at index i passes, and none before it passes, `position` returns i
pub position-at : {X : Type 0} (p : X → Bool) (xs : List X) (i : ℕ) (d : X) → i < length xs → p (get_or xs i d) ≡ true
    → ((k : ℕ) → k < i → p (get_or xs k d) ≡ false) → position p xs ≡ Some i
position-at p xs i d lt here before = grind (arith, position_or_len_is, lt-ltb)

-- if `position` returns no index, no element passes
pub position-None : {X : Type 0} (p : X → Bool) (xs : List X) (d : X) → position p xs ≡ None → (k : ℕ) → k < length xs → p (get_or xs k d) ≡ false
position-None p xs d none k lt = grind (arith, fails_before_first, nat_lt, ltb-false)

-- if only the element at index i passes, `position` returns i
pub position-only : {X : Type 0} (p : X → Bool) (xs : List X) (i : ℕ) (d : X) → i < length xs → p (get_or xs i d) ≡ true
    → ((k : ℕ) → k < length xs → p (get_or xs k d) ≡ true → k ≡ i) → position p xs ≡ Some i
position-only p xs i d lt here only = grind (arith, position-at, cases_Bool)

-- two truth values are equal if each of them implies the other
pub same_bool : (a b : Bool) → (a ≡ true → b ≡ true) → (b ≡ true → a ≡ true) → a ≡ b
same_bool a b h k = grind arith

-- if `some_below` is true, there is a number below n that passes
pub some_below-find : (n : ℕ) (t : ℕ → Bool) → some_below n t ≡ true → (k : ℕ) × (k < n) × (t k ≡ true)
some_below-find zero t h = absurd (false≢true h)
some_below-find (suc n) t h = grind (arith, or_cases, some_below-find n t)

-- if a number below n passes, `some_below` is true
pub some_below-at : (n k : ℕ) (t : ℕ → Bool) → k < n → t k ≡ true → some_below n t ≡ true
some_below-at zero k t l h = absurd (omega arith)
some_below-at (suc n) k t l h = grind (arith, cases_order, or_left, or_right, some_below-at n k t)

-- if `some_below` is false, no number below n passes
pub some_below-none : (n k : ℕ) (t : ℕ → Bool) → some_below n t ≡ false → k < n → t k ≡ false
some_below-none zero k t h l = absurd (omega arith)
some_below-none (suc n) k t h l = grind (arith, cases_order, or_parts, some_below-none n k t)

-- if two tests agree on all numbers below n, `some_below` has the same value for both
pub some_below_same : (n : ℕ) (t u : ℕ → Bool) → ((k : ℕ) → k < n → t k ≡ u k) → some_below n t ≡ some_below n u
some_below_same zero t u h = refl
some_below_same (suc n) t u h = grind (arith, some_below_same n t u)

-- if `greatest_below` finds j, then j is below n and passes
pub greatest_below-some : (n j : ℕ) (t : ℕ → Bool) → greatest_below n t ≡ Some j → (j < n) × (t j ≡ true)
greatest_below-some zero j t h = cc
greatest_below-some (suc n) j t h = grind (arith, greatest_below-some n j t)

-- if `greatest_below` finds no number, no number below n passes
pub greatest_below-none : (n k : ℕ) (t : ℕ → Bool) → greatest_below n t ≡ None → k < n → t k ≡ false
greatest_below-none zero k t h l = absurd (omega arith)
greatest_below-none (suc n) k t h l = grind (arith, cases_order, greatest_below-none n k t)

-- if j is below n and passes, and no number above j and below n passes, `greatest_below` finds j
pub greatest_is : (n j : ℕ) (t : ℕ → Bool) → j < n → t j ≡ true → ((k : ℕ) → j < k → k < n → t k ≡ false) → greatest_below n t ≡ Some j
greatest_is zero j t l h above = absurd (omega arith)
greatest_is (suc n) j t l h above = grind (arith, cases_order, greatest_is n j t)

-- if `greatest_below` finds j, no number above j and below n passes
pub greatest_above : (n j k : ℕ) (t : ℕ → Bool) → greatest_below n t ≡ Some j → j < k → k < n → t k ≡ false
greatest_above zero j k t h l q = absurd (omega arith)
greatest_above (suc n) j k t h l q = grind (arith, cases_order, greatest_above n j k t)

-- if two tests agree, and every number that passes is below both bounds, `some_below` has the same value for both
-- bounds
pub some_below_alike : (n m : ℕ) (t u : ℕ → Bool) → ((k : ℕ) → t k ≡ u k) → ((k : ℕ) → t k ≡ true → k < n) → ((k : ℕ) → u k ≡ true → k < m)
    → some_below n t ≡ some_below m u
some_below_alike n m t u same under_n under_m =
    same_bool _ _ (λ h. let r = some_below-find n t h in grind (arith, some_below-at m r.0 u))
    (λ h. let r = some_below-find m u h in grind (arith, some_below-at n r.0 t))

-- numbers from n on that don't pass don't change what `greatest_below` finds
greatest_below_more : (d n : ℕ) (t : ℕ → Bool) → ((k : ℕ) → t k ≡ true → k < n) → greatest_below (d + n) t ≡ greatest_below n t
greatest_below_more zero n t under = ap (λ m. greatest_below m t) (zero-add n)
greatest_below_more (suc d) n t under =
    let fails = false_from_ne_true (t (d + n)) (λ h. let lt = under (d + n) h in omega arith) in
    ap (λ m. greatest_below m t) (suc-add d n) ∙ ap (λ b. cond b (Some (d + n)) (greatest_below (d + n) t)) fails ∙ greatest_below_more d n t under

-- if two tests agree, and every number that passes is below both bounds, `greatest_below` finds the same for both
-- bounds
pub greatest_below_alike : (n m : ℕ) (t u : ℕ → Bool) → ((k : ℕ) → t k ≡ u k) → ((k : ℕ) → t k ≡ true → k < n) → ((k : ℕ) → u k ≡ true → k < m)
    → greatest_below n t ≡ greatest_below m u
greatest_below_alike n m t u same under_n under_m =
    sym (greatest_below_more m n t under_n) ∙ (λ i. greatest_below (add_comm m n i) (λ k. same k i)) ∙ greatest_below_more n m u under_m

-- two tests that agree on the numbers below n have the same count
pub count_same : (n : ℕ) (s t : ℕ → Bool) → ((j : ℕ) → j < n → s j ≡ t j) → count_below n s ≡ count_below n t
count_same zero s t same = refl
count_same (suc n) s t same = grind (arith, count_same n s t, same)
