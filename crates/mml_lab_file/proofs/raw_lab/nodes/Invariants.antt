use Rattle.std.proofs.Common.{◌≡◌, drop, map}
use Rattle.toml.specs.View.{items_view}
use Rattle.mml_lab_file.specs.{inside.Raw.node_view, Shape.each, Shape.node_of}
use Rattle.mml_lab_file.proofs.EachLemmas.{with_front}
use Rattle.mml_lab_file.proofs.raw_lab.nodes.Given as goal

abbrev pub invariant-loop-value : goal.invariant-loop-value
invariant-loop-value l = with_front (map node_view l.found.items) (each node_of (items_view (drop l.value-index l.list.items))) ≡ each node_of (items_view l.list.items)
