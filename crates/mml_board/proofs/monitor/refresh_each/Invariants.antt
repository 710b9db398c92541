use Rattle.std.specs.FinSet as sets
use Rattle.mml_rules.specs.Network.{configuration_of}
use Rattle.mml_board.specs.inside.Monitor.{is_privileged_node}
use Rattle.mml_board.proofs.KeptLemmas.{IsDone}
use Rattle.mml_board.proofs.monitor.refresh_each.Given as goal

abbrev pub invariant-loop-node : goal.invariant-loop-node
invariant-loop-node l =
    IsDone (sets.contains l.initial.privileged) (is_privileged_node (configuration_of l.network)) l.fn.nodes l.left (sets.contains l.privileged)

abbrev pub decreases-loop-node : goal.decreases-loop-node
decreases-loop-node l = sets.len l.left
