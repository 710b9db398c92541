use Rattle.std.proofs.{lemmas.Bool.Decides.nat_tests, Common.arith}
use Rattle.mml_codec.proofs.TableLemmas.{on_ok, then_put}
use Rattle.mml_codec.proofs.list_writing.ListRowListing.put_fields.Goals as goal

pub returns-clause-text : goal.returns-clause-text
returns-clause-text g c = grind (arith, nat_tests, on_ok, then_put)
