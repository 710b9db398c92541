use Rattle.std.proofs.Common.{◌≡◌, map, take}
use Rattle.mml_lab_file.specs.{inside.Raw.node_view, Reading.registers_with}
use Rattle.mml_lab_file.proofs.build.registers.Given as goal

abbrev pub invariant-loop-index : goal.invariant-loop-index
invariant-loop-index l = l.found.items ≡ map (registers_with l.ids (map node_view l.nodes)) (take l.index l.ids)
