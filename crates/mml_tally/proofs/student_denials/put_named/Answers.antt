use Rattle.mml_tally.specs.StudentDenials.{named_of, denials_line}
use Rattle.mml_tally.proofs.TextsLemmas.{next_line}
use Rattle.mml_tally.proofs.student_denials.put_named.Goals as goal

pub loop-index-preserved : goal.loop-index-preserved
loop-index-preserved c =
    next_line denials_line (λ r. named_of c.args.asks.now) _ _ _ _ _ _ _ _ _ c.loop-index.invariant c.in_ok-put_named_of.ensures c.roster-roster.ensures
    c.new-student.ensures c.name_of.ensures.value c.in_ok-denied.ensures
