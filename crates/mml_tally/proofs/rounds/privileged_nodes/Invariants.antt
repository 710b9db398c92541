use Rattle.std.proofs.Common.{◌≡◌}
use Rattle.mml_ids.specs.Sets.{those_below}
use Rattle.mml_rules.specs.Rules.{is_privileged}
use Rattle.mml_board.specs.World.{configuration}
use Rattle.mml_tally.proofs.rounds.privileged_nodes.Given as goal

abbrev pub invariant-loop-index : goal.invariant-loop-index
invariant-loop-index l = l.nodes ≡ those_below l.index (is_privileged (configuration l.board))
