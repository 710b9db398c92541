use Rattle.std.proofs.Common.{◌≡◌, ℕ}
use Rattle.std.specs.FinSet as sets
use Rattle.mml_rules.specs.Network.{configuration_of}
use Rattle.mml_board.specs.inside.Monitor.{is_privileged_node, IsUntouched}
use Rattle.mml_board.proofs.monitor.refresh.Given as goal

abbrev pub invariant-loop-node : goal.invariant-loop-node
invariant-loop-node l = (j : ℕ) → IsUntouched (configuration_of l.network) l.left j
    → sets.contains l.privileged j ≡ is_privileged_node (configuration_of l.network) j

abbrev pub decreases-loop-node : goal.decreases-loop-node
decreases-loop-node l = sets.len l.left
