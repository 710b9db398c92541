use Rattle.std.proofs.Common.{◌≡◌}
use Rattle.mml_rules.specs.Rules.{enabled_kind}
use Rattle.mml_board.specs.World.{configuration}
use Rattle.mml_stable.specs.Reports.{each_below, privileged_at}
use Rattle.mml_stable.proofs.reporting.privileged_nodes.Given as goal

abbrev pub invariant-loop-index : goal.invariant-loop-index
invariant-loop-index l = l.all.items ≡ each_below l.index (λ i. privileged_at i (enabled_kind (configuration l.board) i))
