use Rattle.mml_lines.proofs.SendingLemmas.{put_last}
use Rattle.mml_lines.proofs.outgoing.Outgoing.put.Goals as goal

pub returns-clause-err : goal.returns-clause-err
returns-clause-err g c =
    (put_last c.put_both.result _ _ _ c.args.self.now _ _ _ _ c.in_ok-write_out.ensures.ok c.if-hold.ensures c.in_ok-write_out.ensures.empty c.if-hold-2.ensures
    c.put_both.ensures.ok c.put_both.ensures.partial c.put_both.ensures.err).1
