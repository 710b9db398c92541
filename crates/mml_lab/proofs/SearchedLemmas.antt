-- The index that a loop over a list has found so far.
use Rattle.std.proofs.Common.{◌≡◌, ℕ, ◌+◌, ◌<◌, ◌≤◌, List, length, get_or, Option, Some, None, Bool, true, false, sym, arith}
use Rattle.std.{specs.Prelude.is_some, specs.Prelude.IfSome, specs.List.position, proofs.lemmas.Bool.cases_order}
use Rattle.mml_ids.proofs.SearchLemmas.{position-none, position-at}

-- the result after the first n elements: the index of the first that passes, or none if none of them passes
abbrev pub IsSoFar : {X : Type 0} → (X → Bool) → List X → X → ℕ → Option ℕ → Type 0
IsSoFar p xs d n None = (k : ℕ) → k < n → p (get_or xs k d) ≡ false
IsSoFar p xs d n (Some i) = (i < n) × (p (get_or xs i d) ≡ true) × ((k : ℕ) → k < i → p (get_or xs k d) ≡ false)

module _ {X : Type 0} (p : X → Bool) (xs : List X) (d : X) where
  -- at the start, no index is found
  pub at_start : IsSoFar p xs d 0 None
  at_start = λ k lt. absurd (omega arith)

  -- if no element passed before, and the next one passes, its index is found
  pub at_first : (n : ℕ) (o : Option ℕ) → IsSoFar p xs d n o → is_some o ≡ false → true ≡ p (get_or xs n d) → IsSoFar p xs d (n + 1) (Some n)
  at_first n o none none' here = grind arith

  -- an index that was found before stays the result
  pub at_later : (n : ℕ) (o : Option ℕ) → IsSoFar p xs d n o → is_some o ≡ true → IsSoFar p xs d (n + 1) o
  at_later n o none found = grind arith

  -- if the next element doesn't pass, the result stays the same
  pub at_other : (n : ℕ) (o : Option ℕ) → IsSoFar p xs d n o → false ≡ p (get_or xs n d) → IsSoFar p xs d (n + 1) o
  at_other n o none other = grind (arith, cases_order)

  -- after all elements, the result is that of `position`
  pub at_end : (n : ℕ) (o : Option ℕ) → n ≡ length xs → IsSoFar p xs d n o → o ≡ position p xs
  at_end n None all none = sym (position-none p xs d (λ k lt. none k (omega arith)))
  at_end n (Some i) all (lt, here, before) = sym (position-at p xs i d (omega arith) here before)

  pub is_within : (n : ℕ) (o : Option ℕ) → IsSoFar p xs d n o → n ≤ length xs → IfSome o (λ i. i < length xs)
  is_within n o none within = grind arith
