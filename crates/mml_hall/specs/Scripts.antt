-- The result of `run_script`: the input that was read, the rest of it, and the output that was written. An output line
-- answers a script line. A hall answers requests in one thread. A transcript has the script lines so far, with their
-- replies.
use Rattle.std.specs.Prelude.{◌≡◌, ◌⊎◌, ℕ, ◌+◌, ◌<◌, List, [], length, Option}
use Rattle.std.specs.Io.KnownBytes.{Appends, Consumes, IsAtEnd, prepend_known}
use Rattle.mml_lab.specs.Labs.{LabValue}
use Rattle.mml_ids.specs.Lines.{ended}
use Rattle.mml_lines.specs.{LinesOf.IsWithinLimit, Runs.OneStep, Sending.BreaksOff, declared.lines.TheConstants.READ_SIZE}
use Rattle.mml_hall.specs.{declared.TheConstants.MAX_SCRIPT_LINE, declared.script.ScriptFault.ScriptFault, Halls.HallValue, Turns.State, Turns.TurnOf, ScriptLines.IsScriptLine, ScriptLines.IsBad}
use Rattle.mml_hall.specs.{ScriptLines.script_line, Transcripts.Transcript, Transcripts.output_line, Transcripts.bytes_read, Transcripts.lines_written, Transcripts.bytes_written}
use Rattle.mml_hall.specs.declared.script.ScriptFault.TheVariants as fault

-- the turn of one script line
abbrev pub LineTurn : LabValue → State → State → Type 0
LineTurn lab st after = OneStep TurnOf (λ lab. IsScriptLine lab.sessions) lab st after

-- the bytes of the line that was answered, with its newline
abbrev pub line_read : {lab : LabValue} {st after : State} → LineTurn lab st after → List ℕ
line_read t = ended (script_line t.line)

-- the output line of the line that was answered
abbrev pub line_written : {lab : LabValue} {st after : State} → LineTurn lab st after → List ℕ
line_written {lab} t = output_line lab t.line.connection t.reply

-- the first lines of the input were answered, as in the transcript, and their replies are written
pub record AllAnswered (lab : LabValue) (input left wrote wrote' : Option (List ℕ)) : Type 0 where
  pub transcript : Transcript lab
  pub consumed : Consumes input left (bytes_read transcript)
  pub appended : Appends wrote wrote' (bytes_written transcript)

-- the first lines of the input were answered, as in the transcript. Only the first bytes of their replies are written:
-- `written` counts the bytes of the first reply that isn't written whole
pub record CutShort (written : ℕ) (lab : LabValue) (input left wrote wrote' : Option (List ℕ)) : Type 0 where
  pub transcript : Transcript lab
  pub consumed : Consumes input left (bytes_read transcript)
  pub cut : BreaksOff (record { written = written }) wrote wrote' (lines_written transcript)

-- All lines of the input were answered, and the hall is in the state after them. `Leaves` states what its sink
-- contains. `held` are the bytes after the last line: they have no newline, and aren't too many for a script line
abbrev pub Finished : {S : Type 0} → (S → State → Type 0) → HallValue S → LabValue → Option (List ℕ) → Option (List ℕ) → Option (List ℕ)
    → Option (List ℕ) → Type 0
Finished Leaves hall lab input left wrote wrote' =
    (held : List ℕ) × (a : AllAnswered lab input (prepend_known held left) wrote wrote') × (hall.lab ≡ lab) × (hall.state ≡ a.transcript.end)
    × Leaves hall.sink a.transcript.end × IsWithinLimit MAX_SCRIPT_LINE held × IsAtEnd left

-- What was answered when an error came. The hall was dropped with its sink, so this only states that there was a sink
-- for which `Leaves` is true. `held` are the bytes that were read and not answered. After a failed read, they have no
-- newline, and aren't too many for a script line. After a failed write, they are fewer than one read may bring, or
-- `IsBad` is true for them. After a bad line, `IsBad` is true for them. If memory ran out, nothing was read or written
abbrev pub Stopped : {S : Type 0} → (S → State → Type 0) → ScriptFault → LabValue → Option (List ℕ) → Option (List ℕ) → Option (List ℕ)
    → Option (List ℕ) → Type 0
Stopped {S} Leaves fault.Read lab input left wrote wrote' =
    (held : List ℕ) × (a : AllAnswered lab input (prepend_known held left) wrote wrote') × ((sink : S) × Leaves sink a.transcript.end)
    × IsWithinLimit MAX_SCRIPT_LINE held
Stopped {S} Leaves (fault.Write n) lab input left wrote wrote' =
    (held : List ℕ) × (a : CutShort n lab input (prepend_known held left) wrote wrote') × ((sink : S) × Leaves sink a.transcript.end)
    × ((length held < READ_SIZE) ⊎ IsBad lab.sessions held)
Stopped {S} Leaves (fault.BadLine k) lab input left wrote wrote' =
    (held : List ℕ) × (a : AllAnswered lab input (prepend_known held left) wrote wrote') × ((sink : S) × Leaves sink a.transcript.end)
    × (k ≡ length a.transcript.lines + 1) × IsBad lab.sessions held
Stopped Leaves fault.Memory lab input left wrote wrote' = Consumes input left [] × Appends wrote wrote' []
