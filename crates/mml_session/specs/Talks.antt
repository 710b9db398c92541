-- A talk: the lines of one connection that were answered, with their replies, and the bytes that were read and written
-- for them. The known participant is the one whose hello was granted in the session.
use Rattle.std.specs.Prelude.{◌≡◌, ℕ, false, List, flat_map, None}
use Rattle.mml_lab.specs.Labs.{LabValue}
use Rattle.mml_ids.specs.Lines.{ended}
use Rattle.mml_lines.specs.{LinesOf.IsWithinLimit, Runs.Exchange, Runs.OneStep}
use Rattle.mml_codec.specs.{declared.TheConstants.MAX_REQUEST, declared.reply.Reply.Reply, Replies.reply_line}
use Rattle.mml_window.specs.Windows.{WindowValue}
use Rattle.mml_session.specs.Turns.{Standing, standing, Turn, is_bye}

-- the state of a session with this window, in which nobody is known
abbrev pub nobody_known : WindowValue → Standing
nobody_known w = standing None w

-- lines, the reply to each, and the state after them; no reply is that to a bye
abbrev pub Talk : LabValue → Standing → Type 0
Talk lab st = Exchange Turn (λ lab. IsWithinLimit MAX_REQUEST) (λ r. is_bye r ≡ false) lab st

-- the turn of one line
abbrev pub LineTurn : LabValue → Standing → Standing → Type 0
LineTurn lab st after = OneStep Turn (λ lab. IsWithinLimit MAX_REQUEST) lab st after

-- the bytes of a talk's lines, each with its newline
abbrev pub bytes_read : {lab : LabValue} {st : Standing} → Talk lab st → List ℕ
bytes_read t = flat_map ended t.lines

-- the bytes of the lines of these replies
abbrev pub reply_lines : LabValue → List Reply → List ℕ
reply_lines lab rs = flat_map (reply_line lab.ids lab.roster) rs

-- the bytes of the lines of a talk's replies
abbrev pub bytes_written : {lab : LabValue} {st : Standing} → Talk lab st → List ℕ
bytes_written {lab} t = reply_lines lab t.replies

-- the bytes of the answered line, with its newline
abbrev pub line_read : {lab : LabValue} {st after : Standing} → LineTurn lab st after → List ℕ
line_read t = ended t.line

-- the bytes of the reply to the answered line, with its newline
abbrev pub line_written : {lab : LabValue} {st after : Standing} → LineTurn lab st after → List ℕ
line_written {lab} t = reply_line lab.ids lab.roster t.reply
