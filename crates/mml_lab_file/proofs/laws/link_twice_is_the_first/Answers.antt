use Rattle.mml_lab_file.proofs.{LabOfLemmas.twice_told, LinksFaultLemmas.twice_fault, LinksFaultLemmas.twice_none}
use Rattle.mml_lab_file.proofs.laws.link_twice_is_the_first.Goals as goal

pub returns : goal.returns
returns c = record { fault = twice_fault; none = twice_none; told = twice_told }
