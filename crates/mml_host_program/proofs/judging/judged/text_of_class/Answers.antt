use Rattle.std.proofs.Common.{List, subst, sym}
use Rattle.mml_board.specs.declared.event.Event.{Event}
use Rattle.mml_audit.specs.AuditMeaning.{IsJournalOf}
use Rattle.mml_host_program.proofs.judging.judged.text_of_class.Goals as goal

pub returns-in-Ok-clause-untold : goal.returns-in-Ok-clause-untold
returns-in-Ok-clause-untold g c = λ start texts tell.
    let journal = subst (λ (es : List Event). IsJournalOf c.args.lab.now es c.args.journal.items) (sym c.as_slice.ensures.value) c.in-Ok.ensures.journal in
    c.text_beside.ensures.untold c.args.journal.items start texts journal tell
