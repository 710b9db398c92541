use Rattle.std.proofs.Common.{◌≡◌, length}
use Rattle.std.specs.FinSet as sets
use Rattle.mml_board.specs.inside.Kept.{AreChosen}
use Rattle.mml_board.proofs.choices.drop_each.Given as goal

abbrev pub invariant-loop-node : goal.invariant-loop-node
invariant-loop-node l = record { size : length l.rules ≡ length l.initial.rules; left : AreChosen l.rules l.left }

abbrev pub decreases-loop-node : goal.decreases-loop-node
decreases-loop-node l = sets.len l.left
