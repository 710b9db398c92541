use Rattle.std.proofs.Common.{map}
use Rattle.mml_lab.specs.{AccountView.entry_account, Rosters.has_name_and_key, Rosters.no_account}
use Rattle.mml_lab.proofs.SearchedLemmas.{IsSoFar}
use Rattle.mml_lab.proofs.roster.student_with.Given as goal

abbrev pub invariant-loop-index : goal.invariant-loop-index
invariant-loop-index l = IsSoFar (has_name_and_key l.name l.key) (map entry_account l.students.entries) no_account l.index l.found
