-- The result of the next line of a session. A view is a command that only asks to be shown something: a see, a look or
-- a report. A window is what the session has seen of the list of events; a closed window shows no more views.
use Rattle.std.specs.Prelude.{◌≡◌, ◌≢◌, ℕ, ◌<◌, Bool, false, true, List, [], ◌++◌, length, take, Option, Result, Ok, Err, ⊤}
use Rattle.std.specs.Io.KnownBytes.{Appends, Consumes, IsAtEnd, prepend_known}
use Rattle.mml_lab.specs.Labs.{LabValue}
use Rattle.mml_ids.specs.Lines.{ended}
use Rattle.mml_lines.specs.{LinesOf.IsWithinLimit, LinesOf.IsTooLong, declared.lines.TheConstants.READ_SIZE, declared.write_fault.WriteFault.WriteFault}
use Rattle.mml_codec.specs.{declared.TheConstants.MAX_REQUEST, declared.reply.Reply.Reply, Replies.reply_line, Replies.TellsFor}
use Rattle.mml_window.specs.declared.sight.Closed.{Closed}
use Rattle.mml_session.specs.{declared.session.Next.Next, declared.session.Sent.Sent, Turns.Standing, Turns.is_bye, Talks.LineTurn, Talks.line_read, Talks.line_written, Ends.IsView}
use Rattle.mml_session.specs.{Holding.IsHeldOrOut, Holding.BreaksOff, Records.Kept, Records.Records, Records.entry_for, Records.line_entries}
use Rattle.mml_codec.specs.declared.reply.Reply.TheVariants as reply
use Rattle.mml_session.specs.declared.session.SessionEnd.TheVariants as end
use Rattle.mml_session.specs.declared.session.Next.TheVariants as next
use Rattle.mml_session.specs.declared.session.Sent.TheVariants as sent

-- what happened to a reply whose line is `whole`, after the buffered bytes `unsent`: all are buffered or all written;
-- if it is the reply to a bye, all are written; if a write failed, only a beginning is written, and the buffer is empty
abbrev pub SendsReply : Sent → Reply → List ℕ → List ℕ → List ℕ → Option (List ℕ) → Option (List ℕ) → Type 0
SendsReply sent.Told r whole unsent unsent' wrote wrote' = (is_bye r ≡ false) × IsHeldOrOut wrote wrote' (unsent ++ whole) unsent'
SendsReply sent.Bye r whole unsent unsent' wrote wrote' = (is_bye r ≡ true) × (unsent' ≡ []) × Appends wrote wrote' (unsent ++ whole)
SendsReply (sent.Unwritten n) r whole unsent unsent' wrote wrote' =
    (n < length (unsent ++ whole)) × (unsent' ≡ []) × Appends wrote wrote' (take n (unsent ++ whole))

-- what happened to a reply, by the result of writing or buffering it, and by whether it is the reply to a bye
abbrev pub sent_of : Result ⊤ WriteFault → Bool → Sent
sent_of (Ok done) false = sent.Told
sent_of (Ok done) true = sent.Bye
sent_of (Err fault) last = sent.Unwritten fault.written

-- the reply was sent and recorded; or it isn't short, and the refusal `memory` was sent and recorded in its place
abbrev pub Tells : Sent → ℕ → LabValue → ℕ → List ℕ → Reply → List ℕ → List ℕ → Option (List ℕ) → Option (List ℕ) → Option Kept → Option Kept → Type 0
Tells said number lab seen line r unsent unsent' wrote wrote' given given' =
    (told : Reply) × TellsFor r told × SendsReply said told (reply_line lab.ids lab.roster told) unsent unsent' wrote wrote'
    × Records number given given' (entry_for seen line told (reply_line lab.ids lab.roster told))

-- the line was answered, and its reply was sent and recorded; or it asks for a view of a closed window, and has no
-- reply
abbrev pub ServesLine : Result Sent Closed → ℕ → LabValue → Standing → Standing → List ℕ → List ℕ → List ℕ → Option (List ℕ) → Option (List ℕ)
    → Option Kept → Option Kept → Type 0
ServesLine (Ok said) number lab st after line unsent unsent' wrote wrote' given given' =
    (t : LineTurn lab st after) × (t.line ≡ line) × SendsReply said t.reply (line_written t) unsent unsent' wrote wrote'
    × Records number given given' (line_entries t)
ServesLine (Err closed) number lab st after line unsent unsent' wrote wrote' given given' =
    (after ≡ st) × IsView st line × (unsent' ≡ unsent) × (wrote' ≡ wrote) × Records number given given' []

-- a session goes on if its reply is written or buffered, and isn't the reply to a bye. Otherwise the session has ended:
-- by the bye, by a failed write, or because the window shows nothing any more
abbrev pub next_after : Result Sent Closed → Next
next_after (Ok sent.Told) = next.Served
next_after (Ok sent.Bye) = next.Ended end.Bye
next_after (Ok (sent.Unwritten n)) = next.Ended end.WriteFault
next_after (Err closed) = next.Ended end.Closed

-- The outcome of the next line, by whether the session goes on or how it ended. `input` is the input before the line.
-- The input after it is `held`, the bytes that were read already, and then `left`. `unsent` and `unsent'` are the
-- replies that were buffered before and after the line. Nothing is read while replies are buffered
abbrev pub ServesNext : Next → ℕ → LabValue → Standing → Standing → Option (List ℕ) → List ℕ → Option (List ℕ) → List ℕ → List ℕ → Option (List ℕ)
    → Option (List ℕ) → Option Kept → Option Kept → Type 0
ServesNext next.Served number lab st after input held left unsent unsent' wrote wrote' given given' =
    (t : LineTurn lab st after) × (is_bye t.reply ≡ false) × Consumes input (prepend_known held left) (line_read t)
    × IsHeldOrOut wrote wrote' (unsent ++ line_written t) unsent' × Records number given given' (line_entries t)
ServesNext (next.Ended end.Bye) number lab st after input held left unsent unsent' wrote wrote' given given' =
    (t : LineTurn lab st after) × (t.reply ≡ reply.Bye) × Consumes input (prepend_known held left) (line_read t) × (length held < READ_SIZE)
    × (unsent' ≡ []) × Appends wrote wrote' (unsent ++ line_written t) × Records number given given' (line_entries t)
ServesNext (next.Ended end.End) number lab st after input held left unsent unsent' wrote wrote' given given' =
    (after ≡ st) × Consumes input (prepend_known held left) [] × IsWithinLimit MAX_REQUEST held × IsAtEnd left
    × (unsent' ≡ unsent) × (unsent ≡ []) × (wrote' ≡ wrote) × Records number given given' []
ServesNext (next.Ended end.ReadFault) number lab st after input held left unsent unsent' wrote wrote' given given' =
    (after ≡ st) × Consumes input (prepend_known held left) [] × IsWithinLimit MAX_REQUEST held
    × (unsent' ≡ unsent) × (unsent ≡ []) × (wrote' ≡ wrote) × Records number given given' []
ServesNext (next.Ended end.WriteFault) number lab st after input held left unsent unsent' wrote wrote' given given' =
    (t : LineTurn lab st after) × Consumes input (prepend_known held left) (line_read t) × (length held < READ_SIZE)
    × (unsent' ≡ []) × BreaksOff wrote wrote' (unsent ++ line_written t) × Records number given given' (line_entries t)
ServesNext (next.Ended end.TooLong) number lab st after input held left unsent unsent' wrote wrote' given given' =
    (after ≡ st) × Consumes input (prepend_known held left) [] × IsTooLong MAX_REQUEST held
    × (unsent' ≡ unsent) × (unsent ≢ [] → length held < READ_SIZE) × (wrote' ≡ wrote) × Records number given given' []
ServesNext (next.Ended end.Closed) number lab st after input held left unsent unsent' wrote wrote' given given' =
    (after ≡ st) × (line : List ℕ) × IsWithinLimit MAX_REQUEST line × IsView st line × Consumes input (prepend_known held left) (ended line)
    × (length held < READ_SIZE) × (unsent' ≡ unsent) × (unsent ≢ [] → length (ended line ++ held) < READ_SIZE) × (wrote' ≡ wrote)
    × Records number given given' []
ServesNext (next.Ended end.Memory) number lab st after input held left unsent unsent' wrote wrote' given given' = ⊥
