use Rattle.std.proofs.Common.{◌≡◌, drop}
use Rattle.mml_lines.specs.Sending.{part_in}
use Rattle.mml_lines.proofs.outgoing.part_of.Given as goal

abbrev pub invariant-loop-len : goal.invariant-loop-len
invariant-loop-len l = part_in l.fn.lengths l.fn.out ≡ part_in (drop l.len-index l.lengths) l.left
