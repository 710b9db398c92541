use Rattle.std.proofs.Common.{◌≡◌, length}
use Rattle.std.specs.FinSet as sets
use Rattle.mml_rules.specs.Network.{registers_at}
use Rattle.mml_board.proofs.KeptLemmas.{IsDone}
use Rattle.mml_board.proofs.effects.write_effects.Given as goal

abbrev pub invariant-loop-node : goal.invariant-loop-node
invariant-loop-node l = record {
  neighbours : l.network.neighbours ≡ l.initial.network.neighbours;
  size : length l.network.registers ≡ length l.initial.network.registers;
  done : IsDone (registers_at l.initial.network.registers) (registers_at l.effects) l.fn.nodes l.left (registers_at l.network.registers);
}

abbrev pub decreases-loop-node : goal.decreases-loop-node
decreases-loop-node l = sets.len l.left
