use Rattle.std.proofs.{lemmas.Bool.Decides.nat_tests, Common.arith}
use Rattle.mml_codec.proofs.CanonicalLemmas.{request_in-canonical}
use Rattle.mml_codec.proofs.request_writing.write_request.Goals as goal

pub returns-clause-again : goal.returns-clause-again
returns-clause-again c = grind (arith, nat_tests, request_in-canonical)
