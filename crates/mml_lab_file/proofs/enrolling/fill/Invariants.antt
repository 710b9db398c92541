use Rattle.std.{proofs.Common.◌≡◌, proofs.Common.◌++◌, proofs.Common.length, specs.Vec.Iter.into_iter_items, specs.Vec.Iter.into_iter_len}
use Rattle.mml_lab_file.proofs.NameTwiceLemmas.{IsSoFar}
use Rattle.mml_lab_file.proofs.enrolling.fill.Given as goal

abbrev pub invariant-loop-student : goal.invariant-loop-student
invariant-loop-student l = record {
  left : l.yielded ++ into_iter_items l.student-iterator ≡ l.fn.students.items;
  counted : into_iter_len l.student-iterator ≡ length (into_iter_items l.student-iterator);
  so_far : IsSoFar l.teacher l.fn.students.items l.yielded l.found.entries;
}
