use Rattle.std.proofs.Common.{◌≡◌, ℕ, ◌<◌, ◌≤◌, ◌+◌, ◌++◌, true, map, length, vec_capacity}
use Rattle.std.specs.FinSet as sets
use Rattle.mml_ids.proofs.SetsLemmas.{ranks_in}
use Rattle.mml_board.specs.World.{size}
use Rattle.mml_policy.specs.Shown.{near}
use Rattle.mml_policy.proofs.NearLemmas.{shown}
use Rattle.mml_policy.proofs.look.near.Given as goal

-- the appended neighbours, followed by those that are left, are all neighbours; and there is room for those that are
-- left
abbrev pub invariant-loop-other : goal.invariant-loop-other
invariant-loop-other l = record {
  within : (j : ℕ) → sets.contains l.left j ≡ true → j < length l.board.network.registers;
  so_far : l.near.items ++ map (shown l.board) (ranks_in (size l.board) l.left) ≡ near l.board l.fn.node;
  room : length l.near.items + sets.len l.left ≤ vec_capacity l.near;
}

abbrev pub decreases-loop-other : goal.decreases-loop-other
decreases-loop-other l = sets.len l.left
