use Rattle.std.proofs.{lemmas.Bool.Decides.nat_tests, Common.arith, Transfers.drop-appended}
use Rattle.mml_session.proofs.session.tell.Goals as goal

pub returns-then-append_reply-clause-tells : goal.returns-then-append_reply-clause-tells
returns-then-append_reply-clause-tells g c = grind (arith, nat_tests, drop-appended, c.send_held-sent.result)

pub returns-clause-tells : goal.returns-clause-tells
returns-clause-tells g c = grind (arith, nat_tests)
