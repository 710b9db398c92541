use Rattle.mml_tally.specs.{Marks.marks_of, Texts.student_line}
use Rattle.mml_tally.proofs.TextsLemmas.{next_line}
use Rattle.mml_tally.proofs.text.put_students.Goals as goal

pub loop-index-preserved : goal.loop-index-preserved
loop-index-preserved c = λ es e.
    next_line student_line (λ r. marks_of r es) _ _ _ _ _ _ _ _ _ (c.loop-index.invariant es e) c.in_ok-put_student.ensures c.roster-roster.ensures
    c.new-student.ensures c.name_of.ensures.value (c.in_ok-marks.ensures es e)
