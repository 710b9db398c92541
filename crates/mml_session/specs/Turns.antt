-- The turns of a session: how it answers one line, and many lines one after another. The place of an event is its
-- number in the list of events, from 1. A window is what the session has seen of this list, and the places of the
-- events that were granted to it. The known participant is the one whose hello was granted in the session.
use Rattle.std.specs.Prelude.{◌≡◌, ◌⊎◌, ℕ, ◌+◌, ◌-◌, Bool, true, false, List, [], ◌∷◌, ◌++◌, length, Option, None, Some, IfSome, Result, Ok, Err}
use mathlib.Core.List.{IsPrefix}
use Rattle.mml_lab.specs.{declared.who.Who.Who, Labs.LabValue}
use Rattle.mml_board.specs.{declared.event.Event.Event, Lists.is_legal_in, Lists.world_in}
use Rattle.mml_lines.specs.Runs.{Runs}
use Rattle.mml_policy.specs.{declared.command.Command.Command, declared.refusal.Refusal.Refusal, Rulings.event_of, Rulings.after_ruling}
use Rattle.mml_policy.specs.declared.ruling.Ruling.{Ruling, TheVariants.Looked, TheVariants.Reported, TheVariants.Granted}
use Rattle.mml_codec.specs.declared.{request.LineFault.LineFault, request.Request.Request, reply.Refused.Refused, reply.Reply.Reply}
use Rattle.mml_codec.specs.declared.greeting.Greeting.{Greeting, TheVariants.Answered, TheVariants.LeftToJudge}
use Rattle.mml_codec.specs.{Greetings.greeting, Greetings.refusal_of, Lines.request_in, Replies.as_list, Replies.place_in, Rulings.reply_of}
use Rattle.mml_window.specs.{Rulings.ruling_at, Windows.WindowValue, Windows.HasSeen}
use Rattle.mml_policy.specs.declared.refusal.Refusal.TheVariants as cause
use Rattle.mml_codec.specs.declared.reply.Refused.TheVariants as refused
use Rattle.mml_codec.specs.declared.reply.Reply.TheVariants as reply

-- the state of a session: who is known on its connection, if anyone is, and what its window has seen and was granted
pub record Standing : Type 0 where
  pub known : Option Who
  pub window : WindowValue

-- the state in which this participant, or nobody, is known, and which has this window
abbrev pub standing : Option Who → WindowValue → Standing
standing known window = record { known = known; window = window }

-- the list with the event after it, if there is one
abbrev pub entered : List Event → Option Event → List Event
entered l None = l
entered l (Some e) = l ++ e ∷ []

-- the places that a reply names: one, if it is the reply to a grant
abbrev pub places_in : Reply → List ℕ
places_in r = as_list (place_in r)

-- how many refusals `journal` a reply is: 1 or 0
abbrev pub halts_in : Reply → ℕ
halts_in (reply.Refuse refused.Journal) = 1
halts_in _ = 0

-- the number n if the reply is the refusal `journal`, and otherwise 0
abbrev pub spare_in : ℕ → Reply → ℕ
spare_in n (reply.Refuse refused.Journal) = n
spare_in n _ = 0

-- how many of these replies are the refusal `journal`
abbrev pub halts_of : List Reply → ℕ
halts_of [] = 0
halts_of (r ∷ rs) = halts_in r + halts_of rs

-- whether this refusal may replace the reply to the ruling: `memory` in place of a look or a report, which have lists;
-- `memory` or `journal` in place of a grant, whichever cause the window keeps; no refusal in place of any other ruling
abbrev pub MayRefuse : Ruling → Refused → Option Refusal → Type 0
MayRefuse (Looked l) refused.Memory kept = Unit {0}
MayRefuse Reported refused.Memory kept = Unit {0}
MayRefuse (Granted e done) refused.Memory kept = kept ≡ Some cause.Memory
MayRefuse (Granted e done) refused.Journal kept = kept ≡ Some cause.Journal
MayRefuse _ _ _ = ⊥

-- the reply is that to the ruling, judged after the list; afterwards the window has seen the list and the ruling's
-- event, if there is one
abbrev pub Plainly : LabValue → List Event → List ℕ → Ruling → Reply → WindowValue → Type 0
Plainly lab l ps ruled r new = (r ≡ reply_of (after_ruling (world_in lab l) ruled) ruled) × HasSeen (entered l (event_of ruled)) (ps ++ places_in r) new

-- the reply is a refusal that may replace the ruling; afterwards the window has seen the list
abbrev pub Refuses : List Event → List ℕ → Ruling → Reply → WindowValue → Type 0
Refuses l ps ruled r new = (why : Refused) × (r ≡ reply.Refuse why) × MayRefuse ruled why new.refused × HasSeen l ps new

-- the window's reply to a command, which is judged after a legal list that begins with all events that the window had
-- seen. The window counts the refusals `journal`, and adds up how many more events the lab allows at each. It is granted
-- nothing after such a refusal
pub record Told (lab : LabValue) (old : WindowValue) (who : Who) (c : Command) (r : Reply) (new : WindowValue) : Type 0 where
  pub list : List Event
  pub later : IsPrefix old.seen list
  pub legal : is_legal_in lab list ≡ true
  pub says : Plainly lab list old.places (ruling_at lab (world_in lab list) who c) r new
      ⊎ Refuses list old.places (ruling_at lab (world_in lab list) who c) r new
  pub counted : new.halts ≡ old.halts + halts_in r
  pub spared : new.spare ≡ old.spare + spare_in (lab.events - length new.seen) r
  pub unhalted : IfSome (place_in r) (λ place. old.halts ≡ 0)

-- the effect of a request: if the rules of greeting answer it, their reply, and the window stays as it is; otherwise
-- the window's reply to its command
abbrev pub Settles : LabValue → Standing → Greeting → Reply → Standing → Type 0
Settles lab st (Answered r x) r' next = (r' ≡ r) × (next ≡ standing x st.window)
Settles lab st (LeftToJudge who c) r' next = (next.known ≡ st.known) × Told lab st.window who c r' next.window

-- the effect of the request that was read from a line, or of a line from which none was read
abbrev pub Asked : LabValue → Standing → Result Request LineFault → Reply → Standing → Type 0
Asked lab st (Err fault) r next = (r ≡ reply.Refuse (refusal_of fault)) × (next ≡ st)
Asked lab st (Ok request) r next = Settles lab st (greeting lab.roster st.known request) r next

-- memory ran out while the line was read: the reply is the refusal `memory`, and nothing changes
abbrev pub Unread : Standing → Reply → Standing → Type 0
Unread st r next = (r ≡ reply.Refuse refused.Memory) × (next ≡ st)

-- the effect of a line: that of its request, or the refusal `memory` if memory ran out while the line was read
abbrev pub Turn : LabValue → Standing → List ℕ → Reply → Standing → Type 0
Turn lab st line r next = Asked lab st (request_in line) r next ⊎ Unread st r next

-- turns one after another, from a state `st` to the state `end`
abbrev pub Run : LabValue → Standing → List (List ℕ) → List Reply → Standing → Type 0
Run lab st lines rs end = Runs (Turn lab) st lines rs end

-- whether the reply is that to a granted hello
abbrev pub is_hello : Reply → Bool
is_hello (reply.Hello who) = true
is_hello _ = false

-- whether the reply is that to a bye
abbrev pub is_bye : Reply → Bool
is_bye reply.Bye = true
is_bye _ = false
