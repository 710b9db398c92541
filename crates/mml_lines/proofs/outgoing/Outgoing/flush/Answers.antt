use Rattle.std.proofs.Common.{refl}
use Rattle.mml_lines.proofs.SendingLemmas.{breaks_after}
use Rattle.mml_lines.proofs.outgoing.Outgoing.flush.Goals as goal

pub returns-in-Err-clause-err : goal.returns-in-Err-clause-err
returns-in-Err-clause-err g c = breaks_after (record { written = 0 }) _ _ _ c.args.self.now refl c.in_ok-write_out.ensures.ok c.in-Err.ensures.bytes
