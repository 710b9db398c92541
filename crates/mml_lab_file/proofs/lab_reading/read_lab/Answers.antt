use Rattle.mml_lab_file.specs.inside.{Raw.raw_view, ChecksView.checked_view}
use Rattle.mml_lab_file.proofs.LabInLemmas.{lawful_from}
use Rattle.mml_lab_file.proofs.lab_reading.read_lab.Goals as goal

pub build-requires : goal.build-requires
build-requires c = lawful_from (raw_view c.in_ok-raw.raw) (checked_view c.in_ok-checked.checked) c.in_ok-checked.ensures
