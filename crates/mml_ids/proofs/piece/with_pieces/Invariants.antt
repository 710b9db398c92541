use Rattle.std.proofs.Common.{◌≡◌, ◌++◌, ◌≤◌, ◌+◌, ◌-◌, length, take, vec_capacity}
use Rattle.mml_ids.specs.Pieces.{joined, room_of}
use Rattle.mml_ids.proofs.piece.with_pieces.Given as goal

abbrev pub invariant-loop-whole : goal.invariant-loop-whole
invariant-loop-whole l = record {
  bound : l.whole ≤ length l.pieces;
  text : l.text.items ≡ l.fn.text.items ++ joined (take l.whole l.pieces);
  grows : length l.text.items ≤ length l.fn.text.items + room_of (take l.whole l.pieces);
  capacity : vec_capacity l.text ≡ vec_capacity l.fn.text;
}

abbrev pub decreases-loop-whole : goal.decreases-loop-whole
decreases-loop-whole l = length l.pieces - l.whole
