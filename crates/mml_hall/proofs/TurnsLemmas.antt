-- What a turn doesn't change, when the journal is halted, and when the refusal `memory` may replace a reply. A turn
-- computes the reply to one line and the state after it. A turn is plain if memory doesn't run out and no write fails.
-- The place of an event is its number in the list of events, from 1. A participant is known on a connection from a
-- granted hello to a bye. A world is the state of a run after some events: its network and its chosen moves.
use Rattle.std.proofs.lemmas.{Bool.Decides.nat_tests, Bool.or_right, List.get_or-set_other, List.set-get_or}
use Rattle.std.proofs.Common.{◌≡◌, ◌≢◌, ◌⊎◌, ◌<◌, ◌-◌, ℕ, true, false, not, List, Option, Some, None, Result, Ok, sym, ap, arith, subst, rules, inl, refl, Err, inr}
use Rattle.mml_lab.specs.{declared.who.Who.Who, Labs.LabValue}
use Rattle.mml_board.specs.{Events.after, declared.event.Event.Event, declared.done.Done.Done}
use Rattle.mml_board.proofs.EventsLemmas.{next_place}
use Rattle.mml_policy.specs.{declared.command.Command.Command, declared.ruling.Ruling.Ruling, declared.ruling.Ruling.TheVariants.Granted, Rulings.ruling}
use Rattle.mml_codec.specs.declared.{request.LineFault.LineFault, request.Request.Request, reply.Reply.Reply}
use Rattle.mml_codec.specs.{Lines.request_in, Replies.is_short, Replies.place_in, Replies.TellsFor, Rulings.reply_of_done}
use Rattle.mml_codec.proofs.RulingsLemmas.{place_of_done, short_done}
use Rattle.mml_engine.proofs.TurnsLemmas.{by_greeting}
use Rattle.mml_hall.specs.Turns.{State, Outcome, Mishap, Turn, IsRefusal, GrowsByGrant, is_grant, turn, known_on, with_known, with_event, outcome_of, settled}
use Rattle.mml_hall.specs.Turns.{answer_to, plain_turn, takes_memory, without_memory, halting}
use Rattle.mml_codec.specs.declared.request.Request.TheVariants as requests
use Rattle.mml_codec.specs.declared.reply.Refused.TheVariants as refused
use Rattle.mml_codec.specs.declared.reply.Reply.TheVariants as replies

-- ---- all results that a turn can have

module _ (lab : LabValue) (st : State) (k : ℕ) (line : List ℕ) (P : Outcome → Type 0) (plain : P (plain_turn lab st k line)) (memory : P (without_memory st))
    (journal : P (halting st)) where
  -- if `P` is true of the plain outcome and of those with the refusals `memory` and `journal`, it is true of the
  -- outcome of each turn, whatever goes wrong
  pub whatever_befell : (mishap : Mishap) → P (turn mishap lab st k line)
  whatever_befell mishap = grind (arith, nat_tests)

  pub by_turn : (out : Outcome) → Turn lab st k line out → P out
  by_turn out (mishap, e) = subst P (sym e) (whatever_befell mishap)

-- ---- what a plain turn does

-- nothing changes, and the reply names no place
pub record IsIdle (st : State) (out : Outcome) : Type 0 where
  pub state : out.state ≡ st
  pub nameless : place_in out.reply ≡ None

-- the request is a hello or a bye: it sets who is known on the connection, and the reply is short and no refusal
pub record IsGreeting (st : State) (k : ℕ) (out : Outcome) : Type 0 where
  pub known : Option Who
  pub state : out.state ≡ with_known st k known
  pub nameless : place_in out.reply ≡ None
  pub short : is_short out.reply ≡ true
  pub tells : IsRefusal out.reply → ⊥

-- a known participant's request for an event is granted, and the reply names the event
pub record IsGranting (lab : LabValue) (st : State) (k : ℕ) (asked : Result Request LineFault) (out : Outcome) : Type 0 where
  pub who : Who
  pub command : Command
  pub event : Event
  pub done : Done
  pub known : known_on st k ≡ Some who
  pub request : asked ≡ Ok (requests.Do command)
  pub ruled : ruling lab.ids lab.roster lab.events st.halted st.world who command ≡ Granted event done
  pub reply : out.reply ≡ reply_of_done (after st.world event).number (after st.world event).place done
  pub state : out.state ≡ with_event st event

-- the state stays the same if a connection is set to the participant who is already known on it
with_known-known_on : (st : State) (k : ℕ) → with_known st k (known_on st k) ≡ st
with_known-known_on st k = ap (λ (xs : _). record st { greeted = xs }) (set-get_or st.greeted (k - 1) None)

module _ (lab : LabValue) (st : State) (k : ℕ) where
  abbrev pub Does : Result Request LineFault → Outcome → Type 0
  Does asked out = IsIdle st out ⊎ IsGreeting st k out ⊎ IsGranting lab st k asked out

  does_told : (asked : Result Request LineFault) (x : Who) (c : Command) (ruled : Ruling) → ruling lab.ids lab.roster lab.events st.halted st.world x c ≡ ruled
      → known_on st k ≡ Some x → asked ≡ Ok (requests.Do c) → Does asked (outcome_of st ruled)
  does_told asked x c (Granted f d) e known is = grind (arith, nat_tests)
  does_told asked x c _ e known is = inl (record { state = refl; nameless = refl })

  does_answer : (asked : Result Request LineFault) → Does asked (answer_to lab st k asked)
  does_answer (Err fault) = inl (record { state = refl; nameless = refl })
  does_answer (Ok q) =
      by_greeting (λ g. Does (Ok q) (settled lab st k g))
      (λ x. inr (inl (record { known = Some x; state = refl; nameless = refl; short = refl; tells = λ h. h })))
      (inr (inl (record { known = None; state = refl; nameless = refl; short = refl; tells = λ h. h }))) lab.roster (known_on st k) q
      (λ d. inl (record { state = with_known-known_on st k; nameless = refl }))
      (λ x c known is. does_told (Ok q) x c (ruling lab.ids lab.roster lab.events st.halted st.world x c) refl known (ap Ok is))

  pub plain_does : (line : List ℕ) → Does (request_in line) (plain_turn lab st k line)
  unfolding plain_turn
  plain_does line = does_answer (request_in line)

-- ---- what a turn doesn't change

-- the reply to a granted event is neither a denial nor a refusal
pub granted_not_refused : (at place : ℕ) (d : Done) → IsRefusal (reply_of_done at place d) → ⊥
granted_not_refused at place d h = grind (arith, nat_tests)

-- a turn on one connection doesn't change who is known on another
pub others_turn : (lab : LabValue) (st : State) (k j : ℕ) (line : List ℕ) (out : Outcome) → Turn lab st k line out → 0 < k → 0 < j → j ≢ k
    → known_on out.state j ≡ known_on st j
others_turn lab st k j line out t some some' differ = grind (arith, nat_tests, by_turn, plain_does, get_or-set_other)

-- a plain turn doesn't change whether the journal is halted
pub plain_halted : (lab : LabValue) (st : State) (k : ℕ) (line : List ℕ) → (plain_turn lab st k line).state.halted ≡ st.halted
plain_halted lab st k line = grind (arith, nat_tests, plain_does)

-- if the reply of a plain turn is the refusal `journal`, the journal is halted
pub plain_journal : (lab : LabValue) (st : State) (k : ℕ) (line : List ℕ) → (plain_turn lab st k line).reply ≡ replies.Refuse refused.Journal → st.halted ≡ true
unfolding plain_turn
plain_journal lab st k line h = grind (arith, nat_tests, by_greeting, request_in line)

-- ---- replies that aren't short, which are those to a look or a report

long_takes_memory : (r : Reply) → is_short r ≡ false → takes_memory r ≡ true
long_takes_memory r h = or_right (is_grant r) (not (is_short r)) (ap not h)

-- if the refusal `memory` is sent in place of a reply that isn't short, the outcome with this refusal is also possible
pub told_turn : (lab : LabValue) (st : State) (k : ℕ) (line : List ℕ) (out : Outcome) (told : Reply) → Turn lab st k line out → TellsFor out.reply told
    → Turn lab st k line (record { reply = told; state = out.state })
told_turn lab st k line out told t tells = search (rules, by_turn, plain_does, short_done, long_takes_memory)

-- ---- the events that turns add

-- no event happens, and the reply names no place
pub record IsQuiet (st : State) (out : Outcome) : Type 0 where
  pub nameless : place_in out.reply ≡ None
  pub events : out.state.events ≡ st.events
  pub world : out.state.world ≡ st.world

-- a turn adds no event, or it grants one
pub turn_does : (lab : LabValue) (st : State) (k : ℕ) (line : List ℕ) (out : Outcome) → Turn lab st k line out
    → IsQuiet st out ⊎ IsGranting lab st k (request_in line) out
turn_does lab st k line out t = grind (arith, nat_tests, plain_does)

-- a turn whose reply names a place adds the event with this place, and any other turn adds none
pub growing_turn : (lab : LabValue) (st : State) (k : ℕ) (line : List ℕ) (out : Outcome) → Turn lab st k line out → GrowsByGrant st out
growing_turn lab st k line out t = grind (arith, nat_tests, turn_does lab st k line out t, place_of_done, next_place)
