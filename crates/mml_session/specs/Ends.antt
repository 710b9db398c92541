-- The end of a session: what was read of its input, what was written, and its window. A window is what a session has
-- seen of the list of events, and which of these events were granted to it. The known participant is the one whose
-- hello was granted. A view is a command that only asks to be shown something: a see, a look or a report.
use Rattle.std.specs.Prelude.{◌≡◌, ℕ, ◌<◌, false, List, [], ◌++◌, length, take, Option, None, Some, Ok}
use Rattle.std.specs.Io.KnownBytes.{Appends, Consumes, IsAtEnd, prepend_known}
use Rattle.mml_lab.specs.{declared.who.Who.Who, Labs.LabValue}
use Rattle.mml_ids.specs.Lines.{ended}
use Rattle.mml_lines.specs.{LinesOf.IsWithinLimit, LinesOf.IsTooLong, declared.lines.TheConstants.READ_SIZE}
use Rattle.mml_policy.specs.{declared.command.Command.Command, Acts.is_act}
use Rattle.mml_codec.specs.{declared.TheConstants.MAX_REQUEST, Lines.request_in}
use Rattle.mml_window.specs.Windows.{WindowValue}
use Rattle.mml_session.specs.{declared.session.SessionEnd.SessionEnd, Turns.Standing, Holding.BreaksInLastFlush}
use Rattle.mml_session.specs.Talks.{Talk, LineTurn, nobody_known, bytes_read, bytes_written, line_read, line_written}
use Rattle.mml_codec.specs.declared.request.Request.TheVariants as requests
use Rattle.mml_codec.specs.declared.reply.Reply.TheVariants as reply
use Rattle.mml_session.specs.declared.session.SessionEnd.TheVariants as end

-- the line is a command of a known participant, and asks only to be shown something
pub record IsView (st : Standing) (line : List ℕ) : Type 0 where
  pub who : Who
  pub command : Command
  pub known : st.known ≡ Some who
  pub asked : request_in line ≡ Ok (requests.Do command)
  pub view : is_act command ≡ false

-- all lines that were taken from the input were answered, their replies are written, and the window is in the state
-- after the last of them
pub record AllAnswered (lab : LabValue) (old new : WindowValue) (input left wrote wrote' : Option (List ℕ)) : Type 0 where
  pub talk : Talk lab (nobody_known old)
  pub stands : talk.end.window ≡ new
  pub consumed : Consumes input left (bytes_read talk)
  pub appended : Appends wrote wrote' (bytes_written talk)

-- All lines that were taken from the input were answered; the last of them is listed apart. Of the bytes of all their
-- replies, those that `sent` selects are written
pub record LastAnswered (sent : List ℕ → List ℕ) (lab : LabValue) (old new : WindowValue) (input left wrote wrote' : Option (List ℕ)) : Type 0 where
  pub talk : Talk lab (nobody_known old)
  pub after : Standing
  pub last : LineTurn lab talk.end after
  pub stands : after.window ≡ new
  pub consumed : Consumes input left (bytes_read talk ++ line_read last)
  pub appended : Appends wrote wrote' (sent (bytes_written talk ++ line_written last))

-- all lines that were taken from the input were answered, and their replies are written. One more line was taken: it
-- asks for a view, and has no reply
pub record LastUnanswered (lab : LabValue) (old new : WindowValue) (input left wrote wrote' : Option (List ℕ)) : Type 0 where
  pub talk : Talk lab (nobody_known old)
  pub line : List ℕ
  pub short : IsWithinLimit MAX_REQUEST line
  pub view : IsView talk.end line
  pub stands : talk.end.window ≡ new
  pub consumed : Consumes input left (bytes_read talk ++ ended line)
  pub appended : Appends wrote wrote' (bytes_written talk)

-- what was answered and written, by how the session ended. `held` are the bytes that were read and not used. After a
-- bye, a failed write or a closed window, `held` has fewer bytes than one read brings. At the end of the input or after
-- a failed read, `held` is the beginning of a line. Otherwise `held` has too many bytes for a line. If a write failed,
-- `n` bytes of the replies' lines are written, and only lines of the last flush are missing
abbrev pub Ended : SessionEnd → LabValue → WindowValue → WindowValue → Option (List ℕ) → Option (List ℕ) → Option (List ℕ) → Option (List ℕ) → Type 0
Ended end.Bye lab old new input left wrote wrote' =
    (held : List ℕ) × (a : LastAnswered (λ line. line) lab old new input (prepend_known held left) wrote wrote')
    × (a.last.reply ≡ reply.Bye) × (length held < READ_SIZE)
Ended end.End lab old new input left wrote wrote' =
    (held : List ℕ) × AllAnswered lab old new input (prepend_known held left) wrote wrote' × IsWithinLimit MAX_REQUEST held × IsAtEnd left
Ended end.ReadFault lab old new input left wrote wrote' =
    (held : List ℕ) × AllAnswered lab old new input (prepend_known held left) wrote wrote' × IsWithinLimit MAX_REQUEST held
Ended end.WriteFault lab old new input left wrote wrote' =
    (held : List ℕ) × (n : ℕ) × (a : LastAnswered (take n) lab old new input (prepend_known held left) wrote wrote')
    × (n < length (bytes_written a.talk ++ line_written a.last)) × (length held < READ_SIZE) × BreaksInLastFlush lab a.talk.replies n
Ended end.TooLong lab old new input left wrote wrote' =
    (held : List ℕ) × AllAnswered lab old new input (prepend_known held left) wrote wrote' × IsTooLong MAX_REQUEST held
Ended end.Closed lab old new input left wrote wrote' =
    (held : List ℕ) × LastUnanswered lab old new input (prepend_known held left) wrote wrote' × (length held < READ_SIZE)
Ended end.Memory lab old new input left wrote wrote' = (new ≡ old) × Consumes input left [] × Appends wrote wrote' []

-- who was known at the end of a session, or before its last line if this line ended the session
abbrev pub Knew : (end : SessionEnd) (who : Option Who) (lab : LabValue) (old new : WindowValue) (input left wrote wrote' : Option (List ℕ))
    → Ended end lab old new input left wrote wrote' → Type 0
Knew end.Bye who lab old new input left wrote wrote' e = e.1.talk.end.known ≡ who
Knew end.End who lab old new input left wrote wrote' e = e.1.talk.end.known ≡ who
Knew end.ReadFault who lab old new input left wrote wrote' e = e.1.talk.end.known ≡ who
Knew end.WriteFault who lab old new input left wrote wrote' e = e.2.talk.end.known ≡ who
Knew end.TooLong who lab old new input left wrote wrote' e = e.1.talk.end.known ≡ who
Knew end.Closed who lab old new input left wrote wrote' e = e.1.talk.end.known ≡ who
Knew end.Memory who lab old new input left wrote wrote' e = who ≡ None
