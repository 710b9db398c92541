use Rattle.std.proofs.Common.{◌≡◌, map, take, string_bytes}
use Rattle.mml_lab.specs.AccountView.{entry_account}
use Rattle.mml_lab_file.specs.Reading.{student_index}
use Rattle.mml_lab_file.proofs.build.owners_in.Given as goal

abbrev pub invariant-loop-name : goal.invariant-loop-name
invariant-loop-name l = l.found.items ≡ map (λ name. student_index (map entry_account l.students.entries) (string_bytes name)) (take l.name-index l.names)
