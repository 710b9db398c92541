use Rattle.std.{proofs.Common.arith, proofs.lemmas.Bool.Decides.nat_tests}
use Rattle.mml_class.proofs.UnionLemmas.{one_moved, all_moved}
use Rattle.mml_class.proofs.findings.union.Goals as goal

pub ranks-preserved : goal.ranks-preserved
ranks-preserved c = grind (arith, nat_tests, one_moved)

pub returns : goal.returns
returns c = grind (arith, nat_tests, all_moved)
