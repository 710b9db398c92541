use Rattle.mml_tally.proofs.StudentsLemmas.{students_apply, run_applies}
use Rattle.mml_tally.proofs.laws.students_apply_all_moves.Goals as goal

pub returns : goal.returns
returns c = record { students = students_apply; run = run_applies }
