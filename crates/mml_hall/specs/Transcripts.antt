-- A transcript: the script lines that were answered, with their replies, and the bytes that were read and written for
-- them.
use Rattle.std.specs.{Prelude.ℕ, Prelude.List, Prelude.[], Prelude.◌∷◌, Prelude.◌++◌, Prelude.map, Prelude.flat_map, Prelude.decimal, List.concat}
use Rattle.mml_lab.specs.Labs.{LabValue}
use Rattle.mml_ids.specs.Lines.{ended}
use Rattle.mml_lines.specs.Runs.{Exchange}
use Rattle.mml_codec.specs.{declared.reply.Reply.Reply, Replies.reply_line}
use Rattle.mml_hall.specs.{Turns.RequestLine, Turns.TurnOf, Turns.opening, ScriptLines.IsScriptLine, ScriptLines.script_line}

-- the output line of a reply: the connection, a space and the reply's line
abbrev pub output_line : LabValue → ℕ → Reply → List ℕ
output_line lab connection r = decimal connection ++ 32 ∷ reply_line lab.ids lab.roster r

-- the output lines of these replies to these lines, in order
abbrev pub output_lines : LabValue → List RequestLine → List Reply → List (List ℕ)
output_lines lab [] rs = []
output_lines lab (s ∷ ss) [] = []
output_lines lab (s ∷ ss) (r ∷ rs) = output_line lab s.connection r ∷ output_lines lab ss rs

-- script lines, the reply to each, and the state after them
abbrev pub Transcript : LabValue → Type 0
Transcript lab = Exchange TurnOf (λ lab. IsScriptLine lab.sessions) (λ r. Unit {0}) lab (opening lab)

-- the bytes of the script lines, each with its newline
abbrev pub bytes_read : {lab : LabValue} → Transcript lab → List ℕ
bytes_read t = flat_map ended (map script_line t.lines)

-- the output lines of a transcript
abbrev pub lines_written : {lab : LabValue} → Transcript lab → List (List ℕ)
lines_written {lab} t = output_lines lab t.lines t.replies

-- the bytes of the output lines of a transcript
abbrev pub bytes_written : {lab : LabValue} → Transcript lab → List ℕ
bytes_written t = concat (lines_written t)
