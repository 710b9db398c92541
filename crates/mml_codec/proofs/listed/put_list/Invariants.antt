use Rattle.std.proofs.Common.{◌≡◌, ◌≤◌, ◌++◌, take, map, vec_capacity}
use Rattle.serde_json.specs.Written.{comma_if}
use Rattle.mml_codec.specs.Facts.{separated}
use Rattle.mml_codec.proofs.SeparatedLemmas.{comma_after}
use Rattle.mml_codec.proofs.listed.put_list.Given as goal

abbrev pub invariant-loop-item : goal.invariant-loop-item
invariant-loop-item g l = record {
  text : l.line.items ≡ l.fn.out.items ++ separated (map (g.T.Listed.text l.ids) (take l.item-index l.items));
  comma : comma_if l.later ≡ comma_after (map (g.T.Listed.text l.ids) (take l.item-index l.items));
  capacity : vec_capacity l.fn.out ≤ vec_capacity l.line;
}
