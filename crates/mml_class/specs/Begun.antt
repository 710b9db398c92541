-- The number of events before a record, from the file that states it.
use Rattle.std.specs.Prelude.{ℕ, ◌-◌, ◌==◌, nat_le, List, length, take, slice_index, Option, None, if◌then◌else◌}
use Rattle.mml_journal.specs.Words.{padded_number_of}

-- the number that 1 to 19 decimal digits spell, perhaps with leading zeros; None for other bytes
abbrev pub decimal_in : List ℕ → Option ℕ
decimal_in bs = if nat_le (length bs) 19 then padded_number_of bs else None

-- the bytes without the newline at their end, if they have one
abbrev pub unended : List ℕ → List ℕ
unended bs = if slice_index bs (length bs - 1) == 10 then take (length bs - 1) bs else bs

-- the number of events before a record whose file has these bytes, or None if they state no number
unfoldable pub begun_in : List ℕ → Option ℕ
begun_in bs = decimal_in (unended bs)
