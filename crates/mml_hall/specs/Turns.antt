-- The turns of a hall: how it answers one line, and many lines one after another. The place of an event is its number
-- in the list of events, from 1. A participant is known on a connection from a granted hello to a bye. A world is the
-- state of a run after some events: its network and its chosen moves.
use Rattle.std.specs.Prelude.{◌≡◌, ◌⊎◌, ℕ, ◌+◌, ◌-◌, ◌<◌, List, [], ◌∷◌, ◌++◌, replicate, Bool, true, false, not, ◌||◌, Option, None, Some, is_some, Result, Ok, Err, slice_index_or, slice_set}
use Rattle.std.specs.Prelude.{if◌then◌else◌}
use Rattle.mml_lab.specs.{declared.who.Who.Who, Labs.LabValue}
use Rattle.mml_board.specs.{declared.event.Event.Event, World.World, World.opening_of, Events.after}
use Rattle.mml_lines.specs.Runs.{Runs}
use Rattle.mml_policy.specs.{declared.refusal.Refusal.Refusal, declared.ruling.Ruling.Ruling, Rulings.ruling, Rulings.event_of}
use Rattle.mml_codec.specs.declared.{request.LineFault.LineFault, request.Request.Request, reply.Reply.Reply}
use Rattle.mml_codec.specs.{Lines.request_in, Greetings.refusal_of, Greetings.greeting, Replies.is_short, Replies.place_in, Rulings.reply_of}
use Rattle.mml_codec.specs.declared.greeting.Greeting.{Greeting, TheVariants.Answered, TheVariants.LeftToJudge}
use Rattle.mml_policy.specs.declared.refusal.Refusal.TheVariants as refusal
use Rattle.mml_codec.specs.declared.reply.Reply.TheVariants as reply
use Rattle.mml_codec.specs.declared.reply.Refused.TheVariants as refused

-- the state of a hall after the answers so far
pub record State : Type 0 where
  pub world : World
  -- the events that were granted so far
  pub events : List Event
  -- for each connection, from 1, the participant who is known on it, if there is one
  pub greeted : List (Option Who)
  -- whether a write to the journal's sink has failed; if so, no more events are granted
  pub halted : Bool

-- the first state of a hall: nothing was granted, nobody is known on any connection, and no write has failed
abbrev pub opening : LabValue → State
opening lab = record { world = opening_of lab.network; events = []; greeted = replicate lab.sessions None; halted = false }

-- the participant who is known on a connection, if there is one
abbrev pub known_on : State → ℕ → Option Who
known_on st k = slice_index_or st.greeted (k - 1) None

-- the state in which this participant, or nobody, is known on a connection, and nothing else is changed
abbrev pub with_known : State → ℕ → Option Who → State
with_known st k x = record st { greeted = slice_set st.greeted (k - 1) x }

-- a reply, and the state after it
pub record Outcome : Type 0 where
  pub reply : Reply
  pub state : State

-- the outcome that has this reply and changes nothing
abbrev pub replied : State → Reply → Outcome
replied st r = record { reply = r; state = st }

-- the state after an event
abbrev pub with_event : State → Event → State
with_event st e = record st { world = after st.world e; events = st.events ++ e ∷ [] }

-- the state after an event, or the same state if there is no event
abbrev pub entered : State → Option Event → State
entered st None = st
entered st (Some e) = with_event st e

-- the outcome of a ruling: its event happens, if it grants one, and the reply is that to the ruling in the world after
-- it
abbrev pub outcome_of : State → Ruling → Outcome
outcome_of st r = let after = entered st (event_of r) in record { reply = reply_of after.world r; state = after }

-- the outcome of a request: an immediate reply, with the participant who is known then, or the outcome of the ruling on
-- its command
abbrev pub settled : LabValue → State → ℕ → Greeting → Outcome
settled lab st k (Answered r x) = record { reply = r; state = with_known st k x }
settled lab st k (LeftToJudge x c) = outcome_of st (ruling lab.ids lab.roster lab.events st.halted st.world x c)

-- the outcome of a line, given the request that was read from it, or the error if it has none
abbrev pub answer_to : LabValue → State → ℕ → Result Request LineFault → Outcome
answer_to lab st k (Err fault) = replied st (reply.Refuse (refusal_of fault))
answer_to lab st k (Ok request) = settled lab st k (greeting lab.roster (known_on st k) request)

-- the answer to a line on a connection, if memory doesn't run out and no write to the sink fails
unfoldable pub plain_turn : LabValue → State → ℕ → List ℕ → Outcome
plain_turn lab st k line = answer_to lab st k (request_in line)

-- the outcome if memory runs out: nothing changes
abbrev pub without_memory : State → Outcome
without_memory st = replied st (reply.Refuse refused.Memory)

-- the outcome if the line of an event can't be written to the journal: the event doesn't happen, and the journal is
-- halted for good
abbrev pub halting : State → Outcome
halting st = record { reply = reply.Refuse refused.Journal; state = record st { halted = true } }

-- whether the reply is that to a granted event
abbrev pub is_grant : Reply → Bool
is_grant r = is_some (place_in r)

-- whether the reply is that to a look, a report or a granted event; these need memory after the line was read
abbrev pub takes_memory : Reply → Bool
takes_memory r = is_grant r || not (is_short r)

-- what may go wrong in a turn
pub data Mishap : Type 0 where
  nothing : Mishap
  -- memory ran out while the line was read
  while_read : Mishap
  -- memory ran out after the line was read
  later : Mishap
  -- a write of the journal's line failed
  sink_failed : Mishap

-- the outcome, or the refusal `memory` if the outcome needs memory, which ran out
abbrev pub unless_refused : State → Outcome → Outcome
unless_refused st out = if takes_memory out.reply then without_memory st else out

-- the outcome, or the refusal `journal` if the outcome grants an event, whose line couldn't be written
abbrev pub unless_failed : State → Outcome → Outcome
unless_failed st out = if is_grant out.reply then halting st else out

-- the outcome of a line on a connection, by what went wrong
abbrev pub turn : Mishap → LabValue → State → ℕ → List ℕ → Outcome
turn nothing lab st k line = plain_turn lab st k line
turn while_read lab st k line = without_memory st
turn later lab st k line = unless_refused st (plain_turn lab st k line)
turn sink_failed lab st k line = unless_failed st (plain_turn lab st k line)

-- the refusal `why` names what prevents the plain outcome, and `after` is the state then: memory that the outcome needs
-- ran out, or the outcome grants an event whose line couldn't be written
abbrev pub Prevents : Refusal → State → Outcome → State → Type 0
Prevents refusal.Full st plain after = ⊥
Prevents refusal.Journal st plain after = (is_grant plain.reply ≡ true) × (after ≡ (halting st).state)
Prevents refusal.Memory st plain after = (takes_memory plain.reply ≡ true) × (after ≡ st)

-- the outcome is the plain one, or the refusal that replaces it because memory ran out or a write failed
abbrev pub Comes : State → Outcome → Outcome → Type 0
Comes st plain out =
    (out ≡ plain) ⊎ ((takes_memory plain.reply ≡ true) × (out ≡ without_memory st)) ⊎ ((is_grant plain.reply ≡ true) × (out ≡ halting st))

-- the outcome is that of a line on a connection, whether or not something went wrong
abbrev pub Turn : LabValue → State → ℕ → List ℕ → Outcome → Type 0
Turn lab st k line out = (mishap : Mishap) × (out ≡ turn mishap lab st k line)

-- `was` and `now` are whether the journal is halted at two moments, `before` and `after` how many writes to its sink
-- have failed. Either nothing changed, or a write failed in between and halted the journal
abbrev pub Halts : Bool → Bool → ℕ → ℕ → Type 0
Halts was now before after = ((now ≡ was) × (after ≡ before)) ⊎ ((was ≡ false) × (now ≡ true) × (before < after))

-- the world, the events and who is known are the same in both states
pub record IsKept (st after : State) : Type 0 where
  pub world : after.world ≡ st.world
  pub events : after.events ≡ st.events
  pub greeted : after.greeted ≡ st.greeted

-- the reply is a denial or a refusal
abbrev pub IsRefusal : Reply → Type 0
IsRefusal (reply.Deny d) = Unit {0}
IsRefusal (reply.Refuse r) = Unit {0}
IsRefusal _ = ⊥

-- one more event happens, and the reply names its place; or none happens, and the reply names no place
abbrev pub GrowsByGrant : State → Outcome → Type 0
GrowsByGrant st out =
    ((out.state.events ≡ st.events) × (out.state.world ≡ st.world) × (place_in out.reply ≡ None))
    ⊎ ((e : Event) × (out.state.events ≡ st.events ++ e ∷ []) × (out.state.world ≡ after st.world e) × (place_in out.reply ≡ Some (st.world.place + 1)))

-- a request line, and the connection on which it came
pub record RequestLine : Type 0 where
  pub connection : ℕ
  pub request : List ℕ

-- the turn of a request line
abbrev pub TurnOf : LabValue → State → RequestLine → Reply → State → Type 0
TurnOf lab st line r next = Turn lab st line.connection line.request (record { reply = r; state = next })

-- turns one after another, from a state `st` to the state `end`
abbrev pub Run : LabValue → State → List RequestLine → List Reply → State → Type 0
Run lab st lines rs end = Runs (TurnOf lab) st lines rs end
