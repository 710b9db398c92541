use Rattle.mml_lab_file.proofs.LabOfLemmas.{of_file}
use Rattle.mml_lab_file.proofs.laws.labs_are_those_of_files.Goals as goal

pub returns : goal.returns
returns c = of_file
