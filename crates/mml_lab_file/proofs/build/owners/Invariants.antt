use Rattle.std.proofs.Common.{◌≡◌, map, take}
use Rattle.mml_lab_file.specs.{inside.Raw.node_view, Reading.owners_with}
use Rattle.mml_lab.specs.AccountView.{entry_account}
use Rattle.mml_lab_file.proofs.build.owners.Given as goal

abbrev pub invariant-loop-index : goal.invariant-loop-index
invariant-loop-index l = map (λ v. v.items) l.found.items ≡ map (owners_with (map entry_account l.students.entries) (map node_view l.nodes)) (take l.index l.ids)
