use Rattle.std.{proofs.Common.rules, proofs.Common.string_bytes}
use Rattle.mml_lab_file.proofs.RawLemmas.{some_lookup}
use Rattle.mml_lab_file.proofs.checks.is_students_name.Goals as goal

pub returns : goal.returns
returns c = rw (some_lookup (string_bytes c.args.name.now) c.args.students.now.entries) (search rules)
