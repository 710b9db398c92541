use Rattle.std.proofs.Common.{◌≡◌, ◌+◌, drop}
use Rattle.mml_tally.specs.Moves.{fate_of}
use Rattle.mml_tally.proofs.fate.fate_of.Given as goal

abbrev pub invariant-loop-index : goal.invariant-loop-index
invariant-loop-index l = fate_of l.node (l.place + l.index) (drop l.index l.later) ≡ fate_of l.node l.place l.later
