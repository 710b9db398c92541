use Rattle.std.proofs.Common.{sym}
use Rattle.mml_lines.proofs.SendingLemmas.{sends_held, breaks_held}
use Rattle.mml_lines.proofs.outgoing.Outgoing.write_out.Goals as goal

pub returns-in-Ok-clause-ok : goal.returns-in-Ok-clause-ok
returns-in-Ok-clause-ok g c = sends_held _ _ _ (sym c.self.view_is) c.self.invariant.whole _ _ _ c.deref.ensures.value c.in-Ok.ensures.ok

pub returns-in-Err-clause-err : goal.returns-in-Err-clause-err
returns-in-Err-clause-err g c =
    breaks_held _ _ _ (sym c.self.view_is) c.self.invariant.whole _ _ _ _ _ _ c.deref.ensures.value c.deref-in-Err.ensures.value
    c.in-Err.ensures.partial c.part_of-written.ensures c.in-Err.ensures.err
