use Rattle.mml_lab_file.proofs.FirstAgainLemmas.{name_twice_fault, name_twice_none}
use Rattle.mml_lab_file.proofs.laws.name_twice_is_the_first.Goals as goal

pub returns : goal.returns
returns c = record { fault = name_twice_fault; none = name_twice_none }
