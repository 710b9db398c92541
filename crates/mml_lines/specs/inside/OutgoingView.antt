-- How an `Outgoing` stores its lines.
use Rattle.std.specs.{Prelude.◌≡◌, Prelude.ℕ, Prelude.◌≤◌, Prelude.◌+◌, Prelude.List, Prelude.[], Prelude.◌∷◌, Prelude.length, Prelude.take, Prelude.drop, Prelude.vec_len, Vec.vec_capacity}
use Rattle.mml_lines.specs.declared.{outgoing.Outgoing.TheInside.Inside, outgoing.TheConstants.OUTGOING_BYTES, outgoing.TheConstants.OUTGOING_LINES, line_rest.TheConstants.REST_ROOM}

-- the bytes, divided into parts of these lengths
abbrev pub parted : List ℕ → List ℕ → List (List ℕ)
parted [] bytes = []
parted (n ∷ ns) bytes = take n bytes ∷ parted ns (drop n bytes)

-- the sum of the lengths
abbrev pub total : List ℕ → ℕ
total [] = 0
total (n ∷ ns) = n + total ns

-- the lines as contracts describe them, computed from the fields
abbrev pub outgoing_view : Inside → List (List ℕ)
outgoing_view a = parted a.lengths.items a.bytes.items

-- the lengths are those of the lines; there is room for OUTGOING_BYTES bytes and OUTGOING_LINES lines, and for the
-- short rest of one more line
pub record IsOutgoingInside (a : Inside) : Type 0 where
  pub whole : total a.lengths.items ≡ length a.bytes.items
  pub few_bytes : vec_len a.bytes ≤ OUTGOING_BYTES
  pub few_lines : vec_len a.lengths ≤ OUTGOING_LINES
  pub room_of_bytes : OUTGOING_BYTES + REST_ROOM ≤ vec_capacity a.bytes
  pub room_of_lines : OUTGOING_LINES ≤ vec_capacity a.lengths
