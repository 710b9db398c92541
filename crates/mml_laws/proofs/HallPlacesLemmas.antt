-- The places (numbers of events) that the replies of a hall name. A world is the state of a run after some events: its
-- network and its chosen moves.
use Rattle.std.proofs.Common.{◌≡◌, ◌<◌, ◌≤◌, ◌+◌, ℕ, true, false, List, [], ◌∷◌, length, flat_map, Some, Result, inl, inr, refl, sym, ap, ◌∙◌, arith, append-nil, length-append}
use Rattle.std.{specs.List.range_with_len, proofs.lemmas.Bool.Decides.nat_tests}
use mathlib.Core.List.{IsPrefix}
use Rattle.mml_lab.specs.Labs.{LabValue, IsLab}
use Rattle.mml_lines.proofs.RunsLemmas.{by_steps, run_keeps, run_at_each}
use Rattle.mml_board.specs.{declared.event.Event.Event, World.size, Events.is_legal, Events.after, Lists.is_legal_in, Lists.world_in}
use Rattle.mml_policy.specs.{Rulings.event_of}
use Rattle.mml_policy.proofs.RulingsLemmas.{legal_event}
use Rattle.mml_codec.specs.{declared.request.LineFault.LineFault, declared.request.Request.Request, declared.reply.Reply.Reply, Lines.request_in, Replies.place_in}
use Rattle.mml_codec.proofs.RulingsLemmas.{place_of_done}
use Rattle.mml_hall.specs.{Halls.IsHall, Turns.State, Turns.Outcome, Turns.Turn, Turns.TurnOf, Turns.RequestLine, Turns.Run, Turns.known_on}
use Rattle.mml_engine.proofs.NamingLemmas.{none_named}
use Rattle.mml_hall.proofs.TurnsLemmas.{IsGranting, turn_does, growing_turn}
use Rattle.mml_session.specs.Turns.{places_in}
use Rattle.mml_window.proofs.PrefixLemmas.{prefix_self, prefix_trans}
use Rattle.mml_laws.specs.Told.{NamesItsEvent, EachNamesItsEvent}
use Rattle.mml_laws.proofs.ToldAtLemmas.{names_in}
use Rattle.mml_engine.specs.Named.{NamesLast}
use Rattle.mml_window.proofs.ListLemmas as lists

-- ---- the states in a run

-- the events are legal, at most as many as the lab allows, and lead to the state's world
record IsOn (lab : LabValue) (st : State) : Type 0 where
  legal : is_legal_in lab st.events ≡ true
  few : length st.events ≤ lab.events
  world : st.world ≡ world_in lab st.events

on_hall : (lab : LabValue) (st : State) → IsHall lab st → IsOn lab st
on_hall lab st is = record { legal = is.legal; few = is.few; world = is.events }

module _ (lab : LabValue) (is : IsLab lab) where
  -- a granted event is legal after the events before it, and the limit and the halt of the journal allow it
  granted_facts : (st : State) (k : ℕ) (asked : Result Request LineFault) (out : Outcome) → IsOn lab st → (g : IsGranting lab st k asked out)
      → (is_legal lab.roster (world_in lab st.events) g.event ≡ true) × (length st.events < lab.events) × (st.halted ≡ false)
  granted_facts st k asked out on g =
      let facts =
      legal_event lab.ids lab.roster lab.events st.halted st.world g.who g.command g.event
      (lists.nodes_in lab st.events is ∙ ap size (sym on.world)) (ap event_of g.ruled) in
      grind (arith, nat_tests, facts, lists.place_in lab st.events)

  on_granting : (st : State) (k : ℕ) (asked : Result Request LineFault) (out : Outcome) → IsOn lab st → IsGranting lab st k asked out → IsOn lab out.state
  on_granting st k asked out on g =
      let facts = granted_facts st k asked out on g in
      grind (arith, nat_tests, facts, lists.legal-one_more_in, length-append, lists.world-one_more)

  on_next : (st : State) (k : ℕ) (line : List ℕ) (out : Outcome) → IsOn lab st → Turn lab st k line out → IsOn lab out.state
  on_next st k line out on turn =
      elim (turn_does lab st k line out turn) [ inl q ↦ grind (arith, nat_tests) | inr g ↦ on_granting st k (request_in line) out on g ]

  kept_next : (st : State) (k : ℕ) (line : List ℕ) (out : Outcome) → Turn lab st k line out → IsPrefix st.events out.state.events
  kept_next st k line out turn =
      elim (growing_turn lab st k line out turn) [ inl none ↦ ([], append-nil st.events ∙ sym none.0) | inr one ↦ (one.0 ∷ [], sym one.1) ]

  on_end : (st end : State) (lines : List RequestLine) (rs : List Reply) → Run lab st lines rs end → IsOn lab st → IsOn lab end
  on_end = run_keeps (TurnOf lab) (λ st end. IsOn lab st → IsOn lab end) (λ st on. on) (λ st next end f g on. g (f on))
      (λ st next line r turn on. on_next st line.connection line.request _ on turn)

  -- ---- the events that the replies name

  -- the reply to a granted event names it as the last event
  names_last : (st : State) (k : ℕ) (line : List ℕ) (out : Outcome) (p : ℕ) → IsOn lab st → IsGranting lab st k (request_in line) out
      → place_in out.reply ≡ Some p → NamesLast lab (known_on st k) line out.reply p out.state.events
  names_last st k line out p on g named =
      let facts = granted_facts st k (request_in line) out on g in
      let place = place_of_done (after st.world g.event).number (after st.world g.event).place g.done in record {
        who = g.who;
        command = g.command;
        event = g.event;
        done = g.done;
        before = st.events;
        by = g.known;
        asked = g.request;
        legal = on.legal;
        last = ap (λ (s : State). s.events) g.state;
        ruled = grind (arith, nat_tests, facts, g.ruled, on.world);
        place = grind (arith, nat_tests, place, g.reply, on.world);
        reply = grind (arith, nat_tests, place, g.reply, on.world);
      }

  names_turn : (l : List Event) (st next : State) (line : RequestLine) (r : Reply) → is_legal_in lab l ≡ true → length l ≤ lab.events → IsOn lab st
      → TurnOf lab st line r next → IsPrefix next.events l → NamesItsEvent lab l (known_on st line.connection) line.request r
  names_turn l st next line r legal few on turn begins p named =
      let out : Outcome = record { reply = r; state = next } in
      elim (turn_does lab st line.connection line.request out turn) [
        | inl q ↦ none_named r p q.nameless named
        | inr g ↦ names_in lab is l legal few (known_on st line.connection) line.request r p next.events
            (names_last st line.connection line.request out p on g named) begins
      ]

  names_run : (l : List Event) → is_legal_in lab l ≡ true → length l ≤ lab.events
      → (st end : State) (lines : List RequestLine) (rs : List Reply) (run : Run lab st lines rs end) → IsOn lab st → IsPrefix end.events l
      → EachNamesItsEvent lab l st lines rs end run
  names_run l legal few =
      run_at_each (TurnOf lab) (λ st line r next. NamesItsEvent lab l (known_on st line.connection) line.request r) (IsOn lab) (λ st. IsPrefix st.events l)
      (λ st next line r turn on. on_next st line.connection line.request _ on turn)
      (λ st next line r turn. prefix_trans st.events next.events l (kept_next st line.connection line.request _ turn))
      (λ st next line r turn on. names_turn l st next line r legal few on turn)

  -- ---- each event is named once

  -- the places that replies name are those of the new events, in order
  abbrev Counted : State → List Reply → State → Type 0
  Counted st rs end =
      let named = flat_map places_in rs in
      (length end.events ≡ length st.events + length named) × (named ≡ range_with_len (length st.events + 1) (length named))

  count_more : (st next end : State) (line : RequestLine) (r : Reply) (rs : List Reply) → IsOn lab st → TurnOf lab st line r next → Counted next rs end
      → Counted st (r ∷ rs) end
  count_more st next end line r rs on turn more =
      let out : Outcome = record { reply = r; state = next } in
      grind (arith, nat_tests, growing_turn lab st line.connection line.request out turn, lists.place_in lab st.events, length-append)

  counted : (st end : State) (lines : List RequestLine) (rs : List Reply) → Run lab st lines rs end → IsOn lab st → Counted st rs end
  counted =
      by_steps (TurnOf lab) (λ st lines rs end. IsOn lab st → Counted st rs end) (λ st on. (omega arith, refl))
      (λ st next end line r lines rs turn rest on. count_more st next end line r rs on turn (rest (on_next st line.connection line.request _ on turn)))

-- ---- in a hall

pub hall_names : (lab : LabValue) (st end : State) (lines : List RequestLine) (rs : List Reply) (run : Run lab st lines rs end) → IsHall lab st
    → EachNamesItsEvent lab end.events st lines rs end run
hall_names lab st end lines rs run is = grind (arith, nat_tests, on_end, on_hall, names_run, prefix_self)

pub hall_once : (lab : LabValue) (st end : State) (lines : List RequestLine) (rs : List Reply) (more : ℕ) → IsHall lab st → Run lab st lines rs end
    → length end.events ≡ length st.events + more → flat_map places_in rs ≡ range_with_len (length st.events + 1) more
hall_once lab st end lines rs more is run count = grind (arith, nat_tests, counted lab is.is_lab st end lines rs run (on_hall lab st is))

pub hall_kept : (lab : LabValue) (st end : State) (lines : List RequestLine) (rs : List Reply) → IsHall lab st → Run lab st lines rs end → IsPrefix st.events end.events
hall_kept lab st end lines rs is =
    run_keeps (TurnOf lab) (λ st end. IsPrefix st.events end.events) (λ st. prefix_self st.events)
    (λ st next end. prefix_trans st.events next.events end.events)
    (λ st next line r turn. kept_next lab is.is_lab st line.connection line.request _ turn) st end lines rs
