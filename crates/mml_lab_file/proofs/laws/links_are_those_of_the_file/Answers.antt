use Rattle.mml_lab_file.specs.Reading.{lab_in, network_in}
use Rattle.mml_lab_file.proofs.{LabFaultLemmas.faultless, LabMeaningLemmas.links_are}
use Rattle.mml_lab_file.proofs.laws.links_are_those_of_the_file.Goals as goal

pub returns : goal.returns
unfolding lab_in network_in
returns c = λ raw i j none. links_are raw (faultless raw none) i j
