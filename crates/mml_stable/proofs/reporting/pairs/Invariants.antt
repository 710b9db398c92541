use Rattle.std.proofs.Common.{◌≡◌}
use Rattle.mml_board.specs.World.{configuration}
use Rattle.mml_stable.specs.Reports.{each_below, pair_at}
use Rattle.mml_stable.proofs.reporting.pairs.Given as goal

abbrev pub invariant-loop-index : goal.invariant-loop-index
invariant-loop-index l = l.all.items ≡ each_below l.index (λ i. pair_at (configuration l.board) i ((configuration l.board).p i))
