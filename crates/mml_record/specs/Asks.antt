-- What the lines of a record asked for, and by which clause each was denied or why it was refused. The answers are
-- computed from the bytes of the lines and of their replies. The known participant is the one whose hello was granted
-- in the session.
use Rattle.std.specs.Prelude.{◌≡◌, ℕ, ◌-◌, List, [], ◌∷◌, ◌++◌, codes, length, take, bytes_eq, Option, None, Some, Result, Ok, Err, if◌then◌else◌}
use Rattle.std.specs.List.{slice_get}
use Rattle.mml_rules.specs.declared.rule.Kind.{Kind}
use Rattle.mml_lab.specs.{declared.who.Who.Who, Labs.LabValue, Rosters.RosterValue}
use Rattle.mml_board.specs.{declared.event.Event.Event, Denials.clause_of}
use Rattle.mml_policy.specs.declared.command.{Asked.Asked, Command.Command}
use Rattle.mml_codec.specs.{declared.request.LineFault.LineFault, declared.request.Request.Request, declared.reply.Reply.Reply, Greetings.greeting, Lines.request_in, Replies.reply_line}
use Rattle.mml_codec.specs.declared.greeting.Greeting.{Greeting, TheVariants.Answered, TheVariants.LeftToJudge}
use Rattle.mml_journal.specs.Words.{◌>>=◌, split_at_byte}
use Rattle.mml_tally.specs.declared.ask.{Ask.Ask, Line.Line}
use Rattle.mml_record.specs.{declared.kept_entry.Entry.Entry, Certified.Fits, DenialMembers.denial_members, DenialNames.denial_told, DenialNames.denial_in, Refusals.reason_told, Refusals.reason_in}
use Rattle.mml_rules.specs.declared.rule.Kind.TheVariants as kind
use Rattle.mml_lab.specs.declared.who.Who.TheVariants as who
use Rattle.mml_policy.specs.declared.command.Asked.TheVariants as asked
use Rattle.mml_policy.specs.declared.command.Command.TheVariants as command
use Rattle.mml_codec.specs.declared.request.Request.TheVariants as requests
use Rattle.mml_codec.specs.declared.reply.Reply.TheVariants as reply
use Rattle.mml_tally.specs.declared.ask.Line.TheVariants as lines
use Rattle.mml_record.specs.declared.kept_entry.Entry.TheVariants as entry

-- ---- the kind of a line

-- the kind of a rule that was asked for
abbrev pub kind_asked : Asked → Kind
kind_asked asked.Update = kind.Update
kind_asked (asked.Marriage id) = kind.Marriage
kind_asked asked.Seduction = kind.Seduction
kind_asked asked.Abandonment = kind.Abandonment

-- what a line with this command is: a move with its node and the kind of its rule, or anything else
abbrev pub line_of_command : Command → Line
line_of_command (command.Move id rule at) = lines.Move id (kind_asked rule)
line_of_command (command.See id) = lines.Other
line_of_command (command.Look id) = lines.Other
line_of_command command.Close = lines.Other
line_of_command (command.Fault id p m) = lines.Other
line_of_command (command.Link a b) = lines.Other
line_of_command (command.Cut a b) = lines.Other
line_of_command (command.Release id) = lines.Other
line_of_command command.Report = lines.Other

-- what a line with this request is
abbrev pub line_of_request : Request → Line
line_of_request (requests.Hello name key) = lines.Other
line_of_request requests.Bye = lines.Other
line_of_request (requests.Do c) = line_of_command c

-- what a line is, by the request that was read from it; a line from which none was read is malformed
abbrev pub line_of : Result Request LineFault → Line
line_of (Ok request) = line_of_request request
line_of (Err fault) = lines.Malformed

-- ---- the clause in a reply

-- a reply's line without its newline
abbrev pub unended : List ℕ → List ℕ
unended out = take (length out - 1) out

-- the value of the first byte as a digit, if there is a byte
abbrev pub digit_first : Option (List ℕ) → Option ℕ
digit_first rest = do
  bytes ← rest
  digit ← slice_get bytes 0
  Some (digit - 48)

-- the number of the clause in these members of a reply: the digit after the first colon
abbrev pub clause_of_members : List ℕ → Option ℕ
clause_of_members members = digit_first (split_at_byte 58 members).1

-- the number of the clause that a reply's text names
abbrev pub clause_told : List ℕ → Option ℕ
clause_told text = denial_members text >>= clause_of_members

-- the text of the reply which says that memory ran out
abbrev pub memory_text : List ℕ
memory_text = codes "{\"refuse\":\"memory\"}"

-- ---- who is known after a line

-- who is known after a line, by what the rules of greeting say of it; a command that they leave to the policy changes
-- nothing
abbrev pub known_by : Option Who → Greeting → Option Who
known_by known (Answered r x) = x
known_by known (LeftToJudge who c) = known

-- who is known after a line, by the request that was read from it; if none was read, the line changes nothing
abbrev pub known_asked : RosterValue → Option Who → Result Request LineFault → Option Who
known_asked roster known (Ok request) = known_by known (greeting roster known request)
known_asked roster known (Err fault) = known

-- who is known after a line with a reply of this text: if memory ran out, the line changed nothing
unfoldable pub known_after : RosterValue → Option Who → List ℕ → List ℕ → Option Who
known_after roster known line text = if bytes_eq text memory_text then known else known_asked roster known (request_in line)

-- ---- the lines of a record

-- the index of a student; none for the teacher
abbrev pub student_in : Who → Option ℕ
student_in who.Teacher = None
student_in (who.Student s) = Some s

-- the student who is known; none if nobody is, or the teacher
abbrev pub student_of : Option Who → Option ℕ
student_of None = None
student_of (Some w) = student_in w

-- what the tally counts of a line: who sent it, what it asks, the clause and the name of its denial, and the reason of
-- its refusal
abbrev pub ask_of : Option Who → List ℕ → List ℕ → Ask
ask_of known line out = record {
  who = student_of known;
  line = line_of (request_in line);
  denied = clause_told (unended out);
  named = denial_told (unended out);
  refused = reason_told (unended out);
}

-- what the tally counts of an entry: one item for a line that was answered, and nothing otherwise
abbrev pub asks_at : Option Who → Entry → List Ask
asks_at known (entry.Said p line out) = ask_of known line out ∷ []
asks_at known _ = []

-- who is known after an entry
abbrev pub known_behind : RosterValue → Option Who → Entry → Option Who
known_behind roster known (entry.Said p line out) = known_after roster known line (unended out)
known_behind roster known (entry.Left p) = None
known_behind roster known (entry.Unrecorded p) = None
known_behind roster known _ = known

-- what the tally counts of these entries, in order, if `known` is known before them
abbrev pub asks_from : RosterValue → Option Who → List Entry → List Ask
asks_from roster known [] = []
asks_from roster known (e ∷ es) = asks_at known e ++ asks_from roster (known_behind roster known e) es

-- what the tally counts of the entries of a record
abbrev pub asks_in : RosterValue → List Entry → List Ask
asks_in roster es = asks_from roster None es

-- ---- what the tally should count

-- the clause of the denial, if the reply is a denial
abbrev pub clause_in : Reply → Option ℕ
clause_in (reply.Deny d) = Some (clause_of d)
clause_in _ = None

-- what the tally should count of a line whose reply is `r`, if `known` was known before the line
abbrev pub asked_with : Option Who → List ℕ → Reply → Ask
asked_with known line r = record {
  who = student_of known;
  line = line_of (request_in line);
  denied = clause_in r;
  named = denial_in r;
  refused = reason_in r;
}

-- `asks` has one item for each line that was answered: the student who was known, what the line asks, and the clause,
-- the denial or the reason in its reply. The rules determine who is known and what the reply is
abbrev pub AreAskedOf : LabValue → List Event → Option Who → List Entry → List Ask → Type 0
AreAskedOf lab l known [] asks = asks ≡ []
AreAskedOf lab l known (entry.Said p line out ∷ es) asks =
    (r : Reply) × (known' : Option Who) × (more : List Ask) × (out ≡ reply_line lab.ids lab.roster r) × Fits lab l (take p l) known line r known'
    × (asks ≡ asked_with known line r ∷ more) × AreAskedOf lab l known' es more
AreAskedOf lab l known (entry.Left p ∷ es) asks = AreAskedOf lab l None es asks
AreAskedOf lab l known (entry.Unrecorded p ∷ es) asks = AreAskedOf lab l None es asks
AreAskedOf lab l known (_ ∷ es) asks = AreAskedOf lab l known es asks
