use Rattle.std.proofs.Common.{◌≡◌, ◌+◌, ◌++◌, drop}
use Rattle.mml_tally.specs.Moves.{moves, moves_from}
use Rattle.mml_tally.proofs.granted_move.moves_of.Given as goal

abbrev pub invariant-loop-index : goal.invariant-loop-index
invariant-loop-index l = l.all.items ++ moves_from (l.index + 1) (drop l.index l.events) ≡ moves l.events
