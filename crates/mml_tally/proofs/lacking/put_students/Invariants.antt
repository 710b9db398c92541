use Rattle.std.proofs.Common.{◌≡◌, ◌++◌}
use Rattle.mml_tally.specs.Lacking.{whole_names}
use Rattle.mml_tally.proofs.lacking.put_students.Given as goal

abbrev pub invariant-loop-index : goal.invariant-loop-index
invariant-loop-index l = l.out.items ≡ l.fn.out.items ++ whole_names l.roster l.findings l.index
