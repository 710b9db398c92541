use Rattle.mml_lab_file.proofs.LabMeaningLemmas.{lawful}
use Rattle.mml_lab_file.proofs.laws.labs_are_lawful.Goals as goal

pub returns : goal.returns
returns c = lawful
