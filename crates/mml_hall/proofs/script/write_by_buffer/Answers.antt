use Rattle.std.proofs.{lemmas.Bool.Decides.nat_tests, Common.arith}
use Rattle.mml_hall.proofs.script.write_by_buffer.Goals as goal

pub returns-clause-tells : goal.returns-clause-tells
returns-clause-tells g c = grind (arith, nat_tests)
