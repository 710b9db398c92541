use Rattle.std.proofs.Common.{◌≡◌, drop}
use Rattle.toml.specs.View.{items_view}
use Rattle.mml_lab_file.specs.Shape.{each, link_of}
use Rattle.mml_lab_file.proofs.EachLemmas.{with_front}
use Rattle.mml_lab_file.proofs.raw_lab.links.Given as goal

abbrev pub invariant-loop-value : goal.invariant-loop-value
invariant-loop-value l = with_front (l.found.items) (each link_of (items_view (drop l.value-index l.list.items))) ≡ each link_of (items_view l.list.items)
