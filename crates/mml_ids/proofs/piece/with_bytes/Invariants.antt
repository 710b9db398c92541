use Rattle.std.proofs.Common.{◌≡◌, ◌++◌, ◌≤◌, ◌+◌, length, drop, vec_capacity}
use Rattle.mml_ids.proofs.piece.with_bytes.Given as goal

abbrev pub invariant-loop-byte : goal.invariant-loop-byte
invariant-loop-byte l = record {
  text : l.text.items ++ drop l.byte-index l.bytes ≡ l.fn.text.items ++ l.bytes;
  room : length l.text.items + length (drop l.byte-index l.bytes) ≤ vec_capacity l.fn.text;
  capacity : vec_capacity l.text ≡ vec_capacity l.fn.text;
}
