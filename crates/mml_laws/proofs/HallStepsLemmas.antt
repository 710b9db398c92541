-- A turn of a session, as a turn of a hall, which answers requests in one thread. The hall's events are those that the
-- session's reply takes into account, and the same participant is known on the connection. A window is what a session
-- has seen of the events of a house. A participant is known on a connection from a granted hello to a bye.
use Rattle.std.proofs.lemmas.{Bool.Decides.nat_tests, List.length-set, List.get_or-set_same}
use Rattle.std.proofs.Common.{◌≡◌, ◌≢◌, ◌<◌, ◌≤◌, ◌-◌, ℕ, false, List, [], ◌∷◌, ◌++◌, length, Option, None, Some, Result, Ok, Err, refl, sym, ap, ◌∙◌, inl, inr, arith, append-nil}
use mathlib.Core.List.{IsPrefix}
use Rattle.mml_lab.specs.{declared.who.Who.Who, Labs.LabValue}
use Rattle.mml_board.specs.{declared.event.Event.Event, declared.done.Done.Done, Events.after, Lists.world_in}
use Rattle.mml_board.proofs.EventsLemmas.{next_place}
use Rattle.mml_policy.specs.{declared.command.Command.Command, declared.ruling.Ruling.Ruling, declared.ruling.Ruling.TheVariants.Granted}
use Rattle.mml_codec.specs.declared.{greeting.Greeting.Greeting, greeting.Greeting.TheVariants.Answered as Immediate, greeting.Greeting.TheVariants.LeftToJudge, request.LineFault.LineFault}
use Rattle.mml_codec.specs.declared.{request.Request.Request, reply.Refused.Refused, reply.Reply.Reply}
use Rattle.mml_codec.specs.{Greetings.greeting, Lines.request_in, Replies.place_in, Rulings.reply_of, Rulings.reply_of_done}
use Rattle.mml_codec.proofs.RulingsLemmas.{place_of_done}
use Rattle.mml_window.specs.{Rulings.ruling_at, Windows.WindowValue, Windows.HasSeen}
use Rattle.mml_window.proofs.{PrefixLemmas.prefix_self, ListLemmas.place_in as place_after, ListLemmas.world-one_more}
use Rattle.mml_hall.specs.Turns.{State, Mishap, TurnOf, turn, known_on, with_known, with_event, outcome_of, plain_turn, replied, nothing, while_read}
use Rattle.mml_hall.specs.ScriptLines.{request_on}
use Rattle.mml_session.specs.Turns.{Standing, entered, places_in, Plainly, MayRefuse, Settles, Asked, Unread, Turn}
use Rattle.mml_laws.specs.Served.{Answered, answered}
use Rattle.mml_laws.proofs.{GreetedLemmas.same_known, WeavingLemmas.placed}
use Rattle.mml_codec.specs.declared.reply.Refused.TheVariants as refused
use Rattle.mml_codec.specs.declared.reply.Reply.TheVariants as reply

-- the hall is in a state after the events l, with n connections, and its journal isn't halted
pub record IsAfter (lab : LabValue) (n : ℕ) (l : List Event) (s : State) : Type 0 where
  pub world : s.world ≡ world_in lab l
  pub events : s.events ≡ l
  pub running : s.halted ≡ false
  pub count : length s.greeted ≡ n

-- the hall may answer the line on connection k by this reply; afterwards `known` is who is known on the connection, and
-- the hall is in a state after the events l
pub record Leads (lab : LabValue) (n : ℕ) (s : State) (k : ℕ) (a : Answered) (known : Option Who) (l : List Event) : Type 0 where
  pub next : State
  pub turn : TurnOf lab s (request_on k a.line) a.reply next
  pub after : IsAfter lab n l next
  pub knows : known_on next k ≡ known

-- in each state after the events l, the hall may answer the line by this reply on a connection on which `known` is
-- known; then `known'` is known there, and `caused` is the event that happened, if any
abbrev pub HallStep : LabValue → ℕ → List Event → Option Who → Answered → Option Who → Option Event → Type 0
HallStep lab n l known a known' caused =
    (s : State) (k : ℕ) → IsAfter lab n l s → known_on s k ≡ known → 0 < k → k ≤ n → Leads lab n s k a known' (entered l caused)

-- the turn of a session takes the events of a list into account, and is a turn of a hall after these events
pub record Steps (lab : LabValue) (n : ℕ) (st next : Standing) (line : List ℕ) (r : Reply) : Type 0 where
  pub list : List Event
  pub begins : IsPrefix st.window.seen list
  pub caused : Option Event
  pub seen : next.window.seen ≡ entered list caused
  pub places : next.window.places ≡ st.window.places ++ placed list caused
  pub step : HallStep lab n list st.known (answered line r) next.known caused

module _ (lab : LabValue) (n : ℕ) (st next : Standing) (line : List ℕ) (r : Reply) where
  -- the hall grants no event: it answers by this reply, and changes nothing but who is known on the connection
  still_step : (l : List Event) → IsPrefix st.window.seen l → HasSeen l st.window.places next.window → (m : Mishap)
      → ((s : State) (k : ℕ) → IsAfter lab n l s → known_on s k ≡ st.known → replied (with_known s k next.known) r ≡ turn m lab s k line)
      → Steps lab n st next line r
  still_step l begins has m answers = record {
    list = l;
    begins = begins;
    caused = None;
    seen = has.0;
    places = has.1 ∙ sym (append-nil st.window.places);
    step = λ s k is known some within. record {
      next = with_known s k next.known;
      turn = (m, answers s k is known);
      after = record { world = is.world; events = is.events; running = is.running; count = length-set s.greeted (k - 1) next.known ∙ is.count };
      knows = get_or-set_same s.greeted (k - 1) next.known None (omega (arith, some, within, is.count));
    };
  }

  -- ---- lines that are answered at once

  at_once : next.window ≡ st.window → (m : Mishap)
      → ((s : State) (k : ℕ) → known_on s k ≡ st.known → replied (with_known s k next.known) r ≡ turn m lab s k line) → Steps lab n st next line r
  at_once same m answers =
      still_step st.window.seen (prefix_self st.window.seen) (ap (λ (w : WindowValue). w.seen) same, ap (λ (w : WindowValue). w.places) same) m
      (λ s k is. answers s k)

  unread_step : Unread st r next → Steps lab n st next line r
  unread_step h = at_once (ap (λ (x : Standing). x.window) h.1) while_read (λ s k known. grind (arith, nat_tests, same_known lab s k st.known known))

  -- ---- commands

  module _ (q : Request) (who : Who) (c : Command) (asked : request_in line ≡ Ok q) (e : greeting lab.roster st.known q ≡ LeftToJudge who c)
      (same : next.known ≡ st.known) (l : List Event) (begins : IsPrefix st.window.seen l) where
    -- the hall's outcome is that of the ruling after the events l
    judged : (ruled : Ruling) → ruling_at lab (world_in lab l) who c ≡ ruled → (s : State) (k : ℕ) → IsAfter lab n l s → known_on s k ≡ st.known
        → plain_turn lab s k line ≡ outcome_of s ruled
    unfolding plain_turn
    judged ruled is_ruled s k is known = grind (arith, nat_tests)

    -- the ruling grants no event
    shown_step : (ruled : Ruling) → ruling_at lab (world_in lab l) who c ≡ ruled → ((s : State) → outcome_of s ruled ≡ replied s (reply_of s.world ruled))
        → place_in (reply_of (world_in lab l) ruled) ≡ None → r ≡ reply_of (world_in lab l) ruled → HasSeen l (st.window.places ++ places_in r) next.window
        → Steps lab n st next line r
    shown_step ruled is_ruled stays nameless is_r has =
        still_step l begins (has.0, grind (arith, nat_tests, append-nil)) nothing
        (λ s k is known. grind (arith, nat_tests, judged ruled is_ruled s k is known, stays s, same_known lab s k st.known known))

    -- the ruling grants an event
    granted_step : (f : Event) (d : Done) → ruling_at lab (world_in lab l) who c ≡ Granted f d
        → r ≡ reply_of_done (after (world_in lab l) f).number (after (world_in lab l) f).place d
        → HasSeen (l ++ f ∷ []) (st.window.places ++ places_in r) next.window → Steps lab n st next line r
    granted_step f d is_ruled is_r has =
        let w = after (world_in lab l) f in record {
          list = l;
          begins = begins;
          caused = Some f;
          seen = has.0;
          places = grind (arith, nat_tests, place_of_done w.number w.place d, next_place (world_in lab l) f, place_after lab l);
          step = λ s k is known some within. record {
            next = with_event s f;
            turn = (nothing, grind (arith, nat_tests, judged (Granted f d) is_ruled s k is known));
            after = grind (arith, nat_tests, world-one_more);
            knows = known ∙ sym same;
          };
        }

    plainly_step : (ruled : Ruling) → ruling_at lab (world_in lab l) who c ≡ ruled → Plainly lab l st.window.places ruled r next.window → Steps lab n st next line r
    plainly_step (Granted f d) is h = granted_step f d is h.0 h.1
    plainly_step _ is h = shown_step _ is (λ s. refl) refl h.0 h.1

    -- memory ran out; in the hall this may have been while the line was read
    refuses_step : (ruled : Ruling) (why : Refused) → r ≡ reply.Refuse why → r ≢ reply.Refuse refused.Journal → MayRefuse ruled why next.window.refused
        → HasSeen l st.window.places next.window → Steps lab n st next line r
    refuses_step ruled why is_r not_journal may has =
        let memory : r ≡ reply.Refuse refused.Memory = grind (arith, nat_tests) in
        still_step l begins has while_read (λ s k is known. grind (arith, nat_tests, same_known lab s k st.known known))

  -- ---- all lines

  settles_step : (q : Request) (g : Greeting) → request_in line ≡ Ok q → greeting lab.roster st.known q ≡ g → r ≢ reply.Refuse refused.Journal
      → Settles lab st g r next → Steps lab n st next line r
  unfolding plain_turn
  settles_step q (Immediate r' x) asked e not_journal h = at_once (ap (λ (y : Standing). y.window) h.1) nothing (λ s k known. grind (arith, nat_tests))
  settles_step q (LeftToJudge who c) asked e not_journal h =
      let ruled = ruling_at lab (world_in lab h.1.list) who c in
      elim h.1.says [
        | inl plainly ↦ plainly_step q who c asked e h.0 h.1.list h.1.later ruled refl plainly
        | inr refuses ↦ refuses_step q who c asked e h.0 h.1.list h.1.later ruled refuses.0 refuses.1 not_journal refuses.2 refuses.3
      ]

  asked_step : (asked : Result Request LineFault) → request_in line ≡ asked → r ≢ reply.Refuse refused.Journal → Asked lab st asked r next → Steps lab n st next line r
  unfolding plain_turn
  asked_step (Err fault) e not_journal h =
      at_once (ap (λ (x : Standing). x.window) h.1) nothing (λ s k known. grind (arith, nat_tests, same_known lab s k st.known known))
  asked_step (Ok q) e not_journal h = settles_step q (greeting lab.roster st.known q) e refl not_journal h

  -- if the reply to a line isn't the refusal `journal`, the turn of a session is a turn of a hall
  pub turn_steps : Turn lab st line r next → r ≢ reply.Refuse refused.Journal → Steps lab n st next line r
  turn_steps h0 not_journal = grind (arith, nat_tests, asked_step, unread_step)
