-- A house as one script. A house is one run of a lab that threads share. A seat of it serves one connection after
-- another, each for a session. A script has request lines of several connections, which are answered in one thread, one
-- after another. A participant is known on a connection from a granted hello to a bye.
use Rattle.std.specs.Prelude.{◌≡◌, ℕ, ◌+◌, ◌==◌, Bool, false, if◌then◌else◌, List, [], ◌∷◌, ◌++◌, map, replicate, None}
use Rattle.std.specs.List.{AllByRecursion, list_any}
use Rattle.mml_lab.specs.Labs.{LabValue}
use Rattle.mml_board.specs.{declared.event.Event.Event, Lists.world_in}
use Rattle.mml_codec.specs.{Canonical.canonical, declared.reply.Reply.Reply}
use Rattle.mml_session.specs.Turns.{is_bye}
use Rattle.mml_hall.specs.{Halls.IsHall, Turns.State, Turns.RequestLine, Turns.Run, ScriptLines.IsScriptLine}
use Rattle.mml_laws.specs.Served.{Answered, answered}
use Rattle.mml_codec.specs.declared.reply.Reply.TheVariants as reply
use Rattle.mml_codec.specs.declared.request.Request.TheVariants as requests

-- a bye, and the reply to it
abbrev pub bye : Answered
bye = answered (canonical requests.Bye) reply.Bye

-- whether one of these replies is that to a bye
abbrev pub says_bye : List Answered → Bool
says_bye said = list_any (λ a. is_bye a.reply) said

-- a bye, if none of these replies is that to a bye
abbrev pub bye_after : List Answered → List Answered
bye_after said = if says_bye said then [] else bye ∷ []

-- the answered lines of a seat's sessions, as those of one connection; a bye follows each session that had none, except
-- for the last session
abbrev pub on_one_connection : List (List Answered) → List Answered
on_one_connection [] = []
on_one_connection (said ∷ []) = said
on_one_connection (said ∷ next ∷ later) = said ++ (bye_after said ++ on_one_connection (next ∷ later))

-- the lines on connection k, with their replies
abbrev pub answers_on : ℕ → List RequestLine → List Reply → List Answered
answers_on k [] rs = []
answers_on k (line ∷ lines) [] = []
answers_on k (line ∷ lines) (r ∷ rs) =
    if line.connection == k then answered line.request r ∷ answers_on k lines rs else answers_on k lines rs

-- the first list has the lines on connection k, with their replies, and each later list has those of the next
-- connection
abbrev pub AreOn : ℕ → List RequestLine → List Reply → List (List Answered) → Type 0
AreOn k lines rs [] = Unit {0}
AreOn k lines rs (said ∷ others) = (answers_on k lines rs ≡ said) × AreOn (k + 1) lines rs others

-- the state of a hall after these events, in which nobody is known on any connection; without events it is the first
-- state
abbrev pub state_after : LabValue → List Event → State
state_after lab begun = record { world = world_in lab begun; events = begun; greeted = replicate lab.sessions None; halted = false }

-- Lines of a script are answered in one thread, from the lawful state after the events `begun` on. In the end the events
-- are `all`, and no write to the journal has failed. The lines on connection k, with their replies, are those of the
-- sessions of seat k, with a bye after each session that had none, except for the last one
pub record IsOneScript (lab : LabValue) (begun all : List Event) (seats : List (List (List Answered))) : Type 0 where
  pub lines : List RequestLine
  pub replies : List Reply
  pub end : State
  pub lawful : IsHall lab (state_after lab begun)
  pub may_come : AllByRecursion (IsScriptLine lab.sessions) lines
  pub run : Run lab (state_after lab begun) lines replies end
  pub events : end.events ≡ all
  pub running : end.halted ≡ false
  pub connections : AreOn 1 lines replies (map on_one_connection seats)
