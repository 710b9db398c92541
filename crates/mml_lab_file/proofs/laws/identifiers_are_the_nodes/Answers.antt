use Rattle.mml_lab_file.specs.Reading.{lab_in}
use Rattle.mml_lab_file.proofs.{LabFaultLemmas.faultless, LabInLemmas.table, LabMeaningLemmas.ids_same}
use Rattle.mml_lab_file.proofs.laws.identifiers_are_the_nodes.Goals as goal

pub returns-clause-table : goal.returns-clause-table
unfolding lab_in
returns-clause-table c = λ raw none. table raw (faultless raw none)

pub returns-clause-same : goal.returns-clause-same
unfolding lab_in
returns-clause-same c = λ raw id none. ids_same raw (faultless raw none) id
