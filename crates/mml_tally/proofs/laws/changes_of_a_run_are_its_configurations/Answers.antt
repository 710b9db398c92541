use Rattle.mml_tally.proofs.NumbersLemmas.{numbers_are}
use Rattle.mml_tally.proofs.laws.changes_of_a_run_are_its_configurations.Goals as goal

pub returns : goal.returns
returns c = numbers_are
