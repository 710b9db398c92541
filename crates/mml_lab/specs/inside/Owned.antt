-- The sets of nodes, one for each student, that a roster has in addition to the owners of each node.
use Rattle.std.specs.{Prelude.◌≡◌, Prelude.ℕ, Prelude.◌+◌, Prelude.◌==◌, Prelude.Bool, Prelude.List, Prelude.[], Prelude.length, Prelude.slice_index_or, List.list_any, FinSet.FinSet, Ordering.nat_cmp}
use Rattle.std.specs.FinSet as set

-- the row at an index; empty past the last one
abbrev pub row_at : List (FinSet nat_cmp) → ℕ → FinSet nat_cmp
row_at rows s = slice_index_or rows s set.empty

-- student s is among the owners of rank i
abbrev pub is_owner : List (List ℕ) → ℕ → ℕ → Bool
is_owner owners s i = list_any (λ o. o == s) (slice_index_or owners i [])

-- a row for each student, and one more; rank i is in the row of s exactly if s owns i
pub record AreOwned (students : ℕ) (owners : List (List ℕ)) (rows : List (FinSet nat_cmp)) : Type 0 where
  pub count : length rows ≡ students + 1
  pub each : (s i : ℕ) → set.contains (row_at rows s) i ≡ is_owner owners s i
