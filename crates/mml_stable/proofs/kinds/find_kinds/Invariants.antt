use Rattle.std.proofs.Common.{◌≡◌, length}
use Rattle.mml_board.specs.World.{configuration}
use Rattle.mml_stable.specs.inside.Kinds.{AreFound}
use Rattle.mml_stable.proofs.kinds.find_kinds.Given as goal

abbrev pub invariant-loop-index : goal.invariant-loop-index
invariant-loop-index l = record { room : length l.kinds ≡ length l.initial.kinds; found : AreFound (configuration l.board) l.index l.kinds }
