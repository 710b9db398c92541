use Rattle.std.proofs.Common.{◌≡◌, length}
use Rattle.mml_rules.specs.{Network.registers_at, Network.configuration_of, Rules.moved}
use Rattle.mml_board.specs.World.{chosen_at}
use Rattle.mml_board.proofs.KeptLemmas.{IsDone}
use Rattle.std.specs.FinSet as sets
use Rattle.mml_board.proofs.effects.compute_effects.Given as goal

abbrev pub invariant-loop-node : goal.invariant-loop-node
invariant-loop-node l = record {
  room : length l.effects ≡ length l.initial.effects;
  done : IsDone (registers_at l.initial.effects) (λ i. moved (configuration_of l.network) i (chosen_at l.chosen i)) l.fn.nodes l.left (registers_at l.effects);
}

abbrev pub decreases-loop-node : goal.decreases-loop-node
decreases-loop-node l = sets.len l.left
