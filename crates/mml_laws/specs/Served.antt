-- What the sessions of a house answered. A house is one run of a lab that threads share. A seat of it serves one
-- connection after another, each for a session, through a window: what these sessions have seen of the list of events,
-- and the places of the events that were granted to them. The place of an event is its number in this list, from 1.
use Rattle.std.specs.{List.AllByRecursion, List.AllZip, List.zip}
use Rattle.std.specs.Prelude.{◌≡◌, ◌≢◌, ℕ, List, [], ◌∷◌, ◌++◌, map, flat_map, Option}
use Rattle.mml_lab.specs.Labs.{LabValue}
use Rattle.mml_board.specs.declared.event.Event.{Event}
use Rattle.mml_lines.specs.Runs.{Chain}
use Rattle.mml_codec.specs.declared.reply.Reply.{Reply}
use Rattle.mml_window.specs.Windows.{WindowValue, window}
use Rattle.mml_session.specs.{declared.session.SessionEnd.SessionEnd, Turns.places_in, Ends.Ended}
use Rattle.mml_session.specs.declared.session.SessionEnd.TheVariants as end
use Rattle.mml_codec.specs.declared.reply.Refused.TheVariants as refused
use Rattle.mml_codec.specs.declared.reply.Reply.TheVariants as replies

-- ---- lines with their replies

-- a request line, and the reply to it
pub record Answered : Type 0 where
  pub line : List ℕ
  pub reply : Reply

-- the line with this reply
abbrev pub answered : List ℕ → Reply → Answered
answered line r = record { line = line; reply = r }

-- these lines with these replies, in order
abbrev pub answers : List (List ℕ) → List Reply → List Answered
answers lines rs = map (λ a. answered a.0 a.1) (zip lines rs)

-- the lines of a session that were answered, with their replies, by how it ended; if a write failed, only a beginning
-- of the replies was written
abbrev pub answers_in : (end : SessionEnd) (lab : LabValue) (old new : WindowValue) (input left wrote wrote' : Option (List ℕ))
    → Ended end lab old new input left wrote wrote' → List Answered
answers_in end.Bye lab old new input left wrote wrote' e = answers e.1.talk.lines e.1.talk.replies ++ answered e.1.last.line e.1.last.reply ∷ []
answers_in end.WriteFault lab old new input left wrote wrote' e = answers e.2.talk.lines e.2.talk.replies ++ answered e.2.last.line e.2.last.reply ∷ []
answers_in end.Memory lab old new input left wrote wrote' e = []
answers_in _ lab old new input left wrote wrote' e = answers e.1.talk.lines e.1.talk.replies

-- a session with this end changed a window from `old` to `new`, and had these answered lines
pub record HasSaid (end : SessionEnd) (lab : LabValue) (old new : WindowValue) (input left wrote wrote' : Option (List ℕ)) (said : List Answered) : Type 0 where
  pub ended : Ended end lab old new input left wrote wrote'
  pub all : said ≡ answers_in end lab old new input left wrote wrote' ended

-- some session changed a window from `old` to `new`, and had these answered lines
pub record IsConversation (lab : LabValue) (said : List Answered) (old new : WindowValue) : Type 0 where
  pub end : SessionEnd
  pub input : Option (List ℕ)
  pub left : Option (List ℕ)
  pub wrote : Option (List ℕ)
  pub wrote' : Option (List ℕ)
  pub says : HasSaid end lab old new input left wrote wrote' said

-- sessions with these answered lines, one after another, changed a window from `old` to `new`
abbrev pub AreConversations : LabValue → WindowValue → List (List Answered) → WindowValue → Type 0
AreConversations lab old sessions new = Chain (IsConversation lab) old sessions new

-- each window of a house has served sessions with these answered lines; at first it had seen the events `begun`, from
-- before the house
abbrev pub AreHeard : LabValue → List Event → List (List (List Answered)) → List WindowValue → Type 0
AreHeard lab begun seats windows = AllZip (AreConversations lab (window begun [])) seats windows

-- ---- their replies

-- the replies of one window's sessions
abbrev pub replies_of : List (List Answered) → List (List Reply)
replies_of sessions = map (map (λ a. a.reply)) sessions

-- each window of a house has served sessions with these replies, as `AreHeard` states
abbrev pub AreServed : LabValue → List Event → List (List (List Reply)) → List WindowValue → Type 0
AreServed lab begun sessions windows = (seats : List (List (List Answered))) × AreHeard lab begun seats windows × (sessions ≡ map replies_of seats)

-- the reply isn't the refusal `journal`
abbrev pub IsUnhalted : Reply → Type 0
IsUnhalted r = r ≢ replies.Refuse refused.Journal

-- no reply of one window's sessions is the refusal `journal`
abbrev pub AreUnhalted : List (List Reply) → Type 0
AreUnhalted sessions = AllByRecursion (AllByRecursion IsUnhalted) sessions

-- no reply of the sessions of any window is the refusal `journal`
abbrev pub NoneHaltedIn : List (List (List Reply)) → Type 0
NoneHaltedIn sessions = AllByRecursion AreUnhalted sessions

-- no reply to these sessions' lines is the refusal `journal`
abbrev pub AreWritten : List (List Answered) → Type 0
AreWritten sessions = AreUnhalted (replies_of sessions)

-- the places that the replies of one window's sessions name, in order
abbrev pub named_in : List (List Reply) → List ℕ
named_in sessions = flat_map (flat_map places_in) sessions

-- the places that the replies of all windows' sessions name, in order
abbrev pub named_by : List (List (List Reply)) → List ℕ
named_by sessions = flat_map named_in sessions
