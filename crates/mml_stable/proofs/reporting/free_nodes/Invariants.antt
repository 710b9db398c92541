use Rattle.std.proofs.Common.{◌≡◌}
use Rattle.mml_ids.specs.Sets.{those_below}
use Rattle.mml_board.specs.World.{configuration}
use Rattle.mml_stable.specs.Reports.{each_below, listed_if, is_free}
use Rattle.mml_stable.proofs.reporting.free_nodes.Given as goal

abbrev pub invariant-loop-index : goal.invariant-loop-index
invariant-loop-index l =
    (l.all.items ≡ each_below l.index (λ i. listed_if (is_free (configuration l.board) i) i))
    × (l.set ≡ those_below l.index (is_free (configuration l.board)))
