use Rattle.std.proofs.Common.{◌≡◌, drop, map}
use Rattle.toml.specs.View.{items_view}
use Rattle.mml_lab.specs.AccountView.{account_view}
use Rattle.mml_lab_file.specs.Shape.{each, student_of}
use Rattle.mml_lab_file.proofs.EachLemmas.{with_front}
use Rattle.mml_lab_file.proofs.raw_lab.students.Given as goal

abbrev pub invariant-loop-value : goal.invariant-loop-value
invariant-loop-value l =
    with_front (map account_view l.found.items) (each student_of (items_view (drop l.value-index l.list.items))) ≡ each student_of (items_view l.list.items)
