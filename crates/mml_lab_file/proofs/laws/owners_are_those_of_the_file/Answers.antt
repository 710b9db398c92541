use Rattle.mml_lab_file.specs.Reading.{lab_in}
use Rattle.mml_lab_file.proofs.{LabFaultLemmas.faultless, LabMeaningLemmas.owner_is}
use Rattle.mml_lab_file.proofs.laws.owners_are_those_of_the_file.Goals as goal

pub returns : goal.returns
unfolding lab_in
returns c = λ raw i s node none at in_s. owner_is raw (faultless raw none) i node at.within at.stands at.named s in_s
