use Rattle.std.proofs.Common.{◌≡◌, ◌++◌}
use Rattle.mml_tally.specs.StudentDenials.{denials_text}
use Rattle.mml_tally.proofs.student_denials.put_named.Given as goal

abbrev pub invariant-loop-index : goal.invariant-loop-index
invariant-loop-index l = l.out.items ≡ l.fn.out.items ++ denials_text l.lab l.asks l.index
