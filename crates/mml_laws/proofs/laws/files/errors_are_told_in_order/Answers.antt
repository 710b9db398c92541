use Rattle.mml_lab_file.proofs.LabErrorsLemmas.{told_in_order}
use Rattle.mml_laws.proofs.laws.files.errors_are_told_in_order.Goals as goal

pub returns : goal.returns
returns c = told_in_order
