use Rattle.std.proofs.Common.{◌≡◌, ◌-◌, ◌<◌, length}
use Rattle.mml_board.specs.World.{configuration}
use Rattle.mml_stable.specs.Walk.{climb}
use Rattle.mml_stable.proofs.certificate.end_of_walk.Given as goal

abbrev pub invariant-loop-step : goal.invariant-loop-step
invariant-loop-step l = record {
  there : climb (configuration l.board) ((configuration l.board).size - l.step) l.at ≡ climb (configuration l.board) (configuration l.board).size l.fn.node;
  within : l.at < length l.board.network.registers;
}
