use Rattle.std.proofs.Common.{◌≡◌, drop, map, string_bytes}
use Rattle.toml.specs.{View.items_view, Data.as_str}
use Rattle.mml_lab_file.specs.Shape.{each, of_kind}
use Rattle.mml_lab_file.proofs.EachLemmas.{with_front}
use Rattle.mml_lab_file.proofs.raw_lab.texts.Given as goal

abbrev pub invariant-loop-value : goal.invariant-loop-value
invariant-loop-value l =
    with_front (map string_bytes l.found.items) (each (of_kind l.key as_str) (items_view (drop l.value-index l.list.items)))
    ≡ each (of_kind l.key as_str) (items_view l.list.items)
