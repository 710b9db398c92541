-- How a `Lines` stores its bytes.
use Rattle.std.specs.Prelude.{◌≡◌, ℕ, ◌+◌, ◌-◌, ◌≤◌, List, vec_len, length, take, drop, slice_range, Some, IfSome}
use Rattle.std.specs.Vec.{vec_capacity}
use Rattle.mml_lines.specs.declared.lines.{Lines.TheInside.Inside, TheConstants.MAX_READS, TheConstants.READ_SIZE}
use Rattle.mml_lines.specs.{LinesOf.IsWithinLimit, Finding.Shows, LinesState.LinesState, NextLine.ending_of}

-- the state as contracts describe it, computed from the fields
abbrev pub lines_view : Inside → LinesState
lines_view a = record {
  limit = a.limit;
  unread = drop a.start a.held.items;
  line = slice_range a.held.items a.line_start a.line_end;
  reads = a.reads;
  ending = a.ending;
}

-- the unread bytes without the last READ_SIZE are within the limit and have no newline. The last read may have added
-- these READ_SIZE bytes, and it was made since the bytes before them didn't show what comes next
abbrev pub IsReadNoFurther : ℕ → List ℕ → Type 0
IsReadNoFurther limit unread = IsWithinLimit limit (take (length unread - READ_SIZE) unread)

-- the offsets are within the held bytes, `ahead` is right about the unread bytes, there is room for the bytes of one
-- more read, at most MAX_READS reads were made, and after a final result there is no line
pub record IsLinesInside (a : Inside) : Type 0 where
  pub line : a.line_start ≤ a.line_end
  pub line_held : a.line_end ≤ vec_len a.held
  pub start_held : a.start ≤ vec_len a.held
  pub ahead : Shows a.ahead a.limit (drop a.start a.held.items)
  pub room : a.limit + READ_SIZE ≤ vec_capacity a.held
  pub chunk : vec_len a.chunk ≡ READ_SIZE
  pub no_further : IsReadNoFurther a.limit (drop a.start a.held.items)
  pub few_reads : a.reads ≤ MAX_READS
  pub ended : IfSome a.ending (λ step. (ending_of step ≡ Some step) × (a.line_start ≡ a.line_end))
