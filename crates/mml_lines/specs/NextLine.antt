-- What the results of `next` mean.
use Rattle.std.specs.{Prelude.ℕ, Prelude.◌+◌, Prelude.◌<◌, Prelude.◌≤◌, Prelude.List, Prelude.[], Prelude.length, Prelude.Option, Prelude.Some, Prelude.None, Io.KnownBytes.IsAtEnd}
use Rattle.mml_lines.specs.declared.lines.{Step.Step, Step.TheVariants.Line, Step.TheVariants.TooLong, Step.TheVariants.End, Step.TheVariants.ReadFault, TheConstants.MAX_READS, TheConstants.READ_SIZE}
use Rattle.mml_ids.specs.Lines.{ended}
use Rattle.mml_lines.specs.{LinesOf.IsWithinLimit, LinesOf.IsTooLong, LinesState.LinesState}

-- the result, if it is final; each result but a line is final
abbrev pub ending_of : Step → Option Step
ending_of Line = None
ending_of TooLong = Some TooLong
ending_of End = Some End
ending_of ReadFault = Some ReadFault

-- the bytes that a result consumes: a line with its newline, and nothing for another result
abbrev pub bytes_taken : Step → List ℕ → List ℕ
bytes_taken Line line = ended line
bytes_taken TooLong line = []
bytes_taken End line = []
bytes_taken ReadFault line = []

-- what each result means.
-- Line: the line is within the limit, and fewer than READ_SIZE bytes after it are unread.
-- TooLong: more bytes than the limit come without a newline, and at most READ_SIZE bytes after the limit are unread.
-- End: the unread bytes were within the limit and had no newline, a read was made, and now the reader is at its end.
-- ReadFault: the unread bytes were within the limit and had no newline, and a read failed, or MAX_READS reads were made
abbrev pub Says : Step → LinesState → LinesState → Option (List ℕ) → Type 0
Says Line old new left = IsWithinLimit new.limit new.line × (length new.unread < READ_SIZE)
Says TooLong old new left = IsTooLong new.limit new.unread × (length new.unread ≤ new.limit + READ_SIZE)
Says End old new left = IsWithinLimit new.limit new.unread × IsAtEnd left × (old.reads < new.reads) × IsWithinLimit old.limit old.unread
Says ReadFault old new left = IsWithinLimit new.limit new.unread × (old.reads < MAX_READS → old.reads < new.reads) × IsWithinLimit old.limit old.unread
