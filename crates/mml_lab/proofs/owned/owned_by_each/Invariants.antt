use Rattle.std.proofs.Common.{◌≡◌, ℕ, ◌+◌, ◌&&◌, ltb, map, length}
use Rattle.std.specs.FinSet as sets
use Rattle.mml_lab.specs.inside.Owned.{row_at, is_owner}
use Rattle.mml_lab.proofs.owned.owned_by_each.Given as goal

-- the rows contain the nodes that the loop has passed
abbrev pub invariant-loop-index : goal.invariant-loop-index
invariant-loop-index l = record {
  count : length l.rows.items ≡ l.students + 1;
  each : (s i : ℕ) → sets.contains (row_at l.rows.items s) i ≡ (ltb i l.index && is_owner (map (λ v. v.items) l.owners) s i);
}
