use Rattle.std.proofs.Common.{◌≡◌, ◌≤◌, ◌+◌, ◌*◌, ◌++◌, length, vec_capacity}
use Rattle.serde_json.specs.Written.{comma_if}
use Rattle.mml_codec.specs.Facts.{separated}
use Rattle.mml_codec.proofs.SeparatedLemmas.{comma_after, texts}
use Rattle.mml_codec.proofs.reply_value.with_members.Given as goal

abbrev pub invariant-loop-index : goal.invariant-loop-index
invariant-loop-index l = record {
  text : l.line.items ≡ l.fn.text.items ++ separated (texts l.ids l.moved l.index);
  comma : comma_if l.later ≡ comma_after (texts l.ids l.moved l.index);
  capacity : vec_capacity l.line ≡ vec_capacity l.fn.text;
  few : length l.line.items ≤ length l.fn.text.items + 6 * l.index;
}
