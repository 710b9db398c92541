use Rattle.std.proofs.Common.{◌≡◌, ℕ, ◌&&◌, ltb}
use Rattle.mml_rules.specs.{Rules.is_privileged, Network.configuration_of}
use Rattle.std.specs.FinSet as sets
use Rattle.mml_board.proofs.monitor.privileged_set.Given as goal

abbrev pub invariant-loop-index : goal.invariant-loop-index
invariant-loop-index l = (j : ℕ) → sets.contains l.nodes j ≡ (ltb j l.index && is_privileged (configuration_of l.network) j)
