use Rattle.mml_tally.proofs.StudentDenialsLemmas.{are_sums}
use Rattle.mml_tally.proofs.laws.columns_are_sums_of_denials.Goals as goal

pub returns : goal.returns
returns c = are_sums
