use Rattle.mml_laws.proofs.ServedLemmas.{nobody_halted}
use Rattle.mml_laws.proofs.laws.halting.a_house_that_ends_unhalted_refused_nothing_as_journal.Goals as goal

pub returns : goal.returns
returns c s = λ lab begun first contents sessions windows log served ended going. nobody_halted lab begun sessions windows served (ended.unhalted going)
