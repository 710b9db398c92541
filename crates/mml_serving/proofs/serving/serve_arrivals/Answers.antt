use Rattle.std.proofs.{lemmas.Bool.Decides.nat_tests, Common.arith}
use Rattle.mml_serving.proofs.EndingsLemmas.{badly_logged}
use Rattle.mml_serving.proofs.serving.serve_arrivals.Goals as goal

pub returns-in-Ok-write_last-clause-last : goal.returns-in-Ok-write_last-clause-last
returns-in-Ok-write_last-clause-last g c =
    rw (rw c.in-Ok.ensures at c.in-Ok-served.ensures.served).kept.board at c.in-Ok-write_last.ensures.told

pub returns-in-Err-write_last-clause-badly : goal.returns-in-Err-write_last-clause-badly
returns-in-Err-write_last-clause-badly g c = grind (arith, nat_tests, badly_logged)
