use Rattle.std.{proofs.Common.◌≡◌, proofs.Common.ℕ, proofs.Common.◌&&◌, proofs.Common.◌||◌, proofs.Common.eqb, proofs.Common.take, proofs.Common.length, specs.List.list_any}
use Rattle.mml_lab.specs.inside.Owned.{row_at}
use Rattle.std.specs.FinSet as sets
use Rattle.mml_lab.proofs.owned.give.Given as goal

-- the node is in the rows of the owners that the loop has passed
abbrev pub invariant-loop-owner : goal.invariant-loop-owner
invariant-loop-owner l = record {
  count : length l.rows ≡ length l.fn.rows;
  each : (s i : ℕ) → sets.contains (row_at l.rows s) i ≡ (sets.contains (row_at l.fn.rows s) i || (eqb i l.node && list_any (λ o. eqb o s) (take l.owner-index l.owners)));
}
