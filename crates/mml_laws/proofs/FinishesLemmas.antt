-- A run can be finished by a script that asks for the events that are still missing. A world is the state of a run
-- after some events: its network and its chosen moves.
use Rattle.std.{proofs.lemmas.Bool.Decides.nat_tests, proofs.lemmas.Bool.and_parts, proofs.lemmas.Bool.and_from, proofs.lemmas.List.get_or-set_same, specs.List.list_all}
use Rattle.std.proofs.Common.{◌≡◌, ℕ, ◌<◌, ◌≤◌, ◌+◌, true, false, List, [], ◌∷◌, length, Option, None, Some, Ok, refl, sym, ap, ◌∙◌, arith}
use Rattle.mml_rules.specs.Matching.{IsStable}
use Rattle.mml_lab.specs.{declared.who.Who.Who, Labs.LabValue, Labs.IsLab, Labs.link_count, Rosters.IsPrincipal, Rosters.name_of, Rosters.key_of, RosterMeaning.IsKnownAs}
use Rattle.mml_lab_file.{specs.Reading.lab_of, proofs.LabMeaningLemmas.lawful, proofs.OwnersLemmas.one_or_two}
use Rattle.mml_board.specs.{declared.event.Event.Event, World.configuration, Events.is_legal, Events.after, Events.done_by, Runs.is_legal_list, Runs.world_of}
use Rattle.mml_board.proofs.EventsLemmas.{next_place}
use Rattle.mml_policy.specs.Asking.{asker, command_of}
use Rattle.mml_journal.{proofs.MemberLemmas.legal_member}
use Rattle.mml_convergence.{specs.Rest.EachHasOwner, specs.Rest.is_grant_or_close, specs.Most.events_to_rest, proofs.LeadsToRestLemmas.reached}
use Rattle.mml_codec.specs.{declared.reply.Reply.Reply, declared.greeting.Greeting.TheVariants.Answered, Canonical.IsWritable, Greetings.greeting, Rulings.reply_of_done}
use Rattle.mml_codec.proofs.{CanonicalLemmas.request_in-canonical, GreetingsLemmas.hello_is_granted}
use Rattle.mml_hall.specs.{Turns.State, Turns.TurnOf, Turns.nothing, Turns.known_on, Turns.with_known, Turns.with_event, Turns.opening, Turns.outcome_of, Halls.IsHall}
use Rattle.mml_hall.proofs.HallsLemmas.{IsHall-opening, IsHall-event, IsHall-known, place-is}
use Rattle.mml_record.proofs.CountLemmas.{number_list}
use Rattle.mml_tally.proofs.StudentsLemmas.{opening-world}
use Rattle.mml_laws.specs.Finishes.{line_for, hello_of, is_granted, FinishesByAsking}
use Rattle.mml_laws.proofs.{GreetedLemmas.plain_so, GreetedLemmas.hall_judged, EndsLemmas.legal_takes_place, RestWithinLemmas.events_few}
use Rattle.mml_laws.proofs.AskingLinesLemmas.{bye_comes, hello_comes, command_comes}
use Rattle.mml_codec.specs.declared.reply.Reply.TheVariants as reply
use Rattle.mml_codec.specs.declared.request.Request.TheVariants as requests

module _ (lab : LabValue) where
  -- ---- the turns that ask for one event

  bye_turn : (st : State) → TurnOf lab st (line_for requests.Bye) reply.Bye (with_known st 1 None)
  bye_turn st =
      let bye : greeting lab.roster (known_on st 1) requests.Bye ≡ Answered reply.Bye None = grind (arith, nat_tests, known_on st 1) in
      (nothing, sym (plain_so lab st 1 _ requests.Bye _ (request_in-canonical requests.Bye (tt, tt)) bye))

  hello_turn : (st : State) (x : Who) → IsLab lab → IsPrincipal lab.roster x → known_on st 1 ≡ None
      → TurnOf lab st (line_for (hello_of lab x)) (reply.Hello x) (with_known st 1 (Some x))
  hello_turn st x is member unknown =
      let own : IsKnownAs lab.roster x (name_of lab.roster x) (key_of lab.roster x) = record { member = member; named = refl; keyed = refl } in
      let granted = (hello_is_granted lab.roster (name_of lab.roster x) (key_of lab.roster x) x (Some x) is.roster).1 (own, refl) in
      let greeted = ap (λ (y : Option Who). greeting lab.roster y (hello_of lab x)) unknown ∙ granted in
      (nothing, sym (plain_so lab st 1 _ (hello_of lab x) _ (request_in-canonical (hello_of lab x) (hello_comes lab is x member).0) greeted))

  command_turn : (st : State) (e : Event) → IsHall lab st → st.halted ≡ false → is_legal lab.roster st.world e ≡ true → st.world.place < lab.events
      → known_on st 1 ≡ Some (asker e) → IsWritable (requests.Do (command_of lab.ids st.world e))
      → (r : Reply) × (is_granted r ≡ true) × TurnOf lab st (line_for (requests.Do (command_of lab.ids st.world e))) r (with_event st e)
  command_turn st e is running legal room known can =
      let ruled = legal_takes_place lab is.is_lab st.world (record { world = is.world; nodes = sym is.nodes }) st.halted room running e legal in
      let plain = hall_judged lab st 1 _ (asker e) (command_of lab.ids st.world e) known (request_in-canonical _ can) in
      let r = reply_of_done (after st.world e).number (after st.world e).place (done_by st.world e) in
      (r, grind (arith, nat_tests, done_by st.world e), (nothing, sym (plain ∙ ap (outcome_of st) ruled)))

  -- ---- the turns that ask for each event of a list

  -- the states after a bye, and after a bye and the hello of a participant
  abbrev left : State → State
  left st = with_known st 1 None

  abbrev hailed : State → Who → State
  hailed st x = with_known (left st) 1 (Some x)

  asks : (n : ℕ) (st : State) (es : List Event) → IsHall lab st → st.halted ≡ false → is_legal_list lab.roster st.world es ≡ true
      → list_all is_grant_or_close es ≡ true → IsStable (configuration (world_of st.world es)) → st.world.place + length es ≤ lab.events → length es ≤ n
      → (rs : List Reply) × (end : State) × FinishesByAsking lab st n es rs end
  asks n st [] is running legal forward stable room few =
      ([], st, record { few = few; forward = refl; may_come = tt; run = refl; granted = refl; world = refl; stable = stable })
  asks n st (e ∷ es) is running legal forward stable room few =
      let both = and_parts (is_legal lab.roster st.world e) (is_legal_list lab.roster (after st.world e) es) legal in
      let kinds = and_parts (is_grant_or_close e) (list_all is_grant_or_close es) forward in
      let of = legal_member lab.ids lab.roster st.world is.is_lab.roster is.world (sym is.nodes) e both.0 in
      let there : IsPrincipal lab.roster (asker e) = grind (arith, nat_tests) in
      let left_is : IsHall lab (left st) = IsHall-known lab st is 0 None tt in
      let hailed_is : IsHall lab (hailed st (asker e)) = IsHall-known lab (left st) left_is 0 (Some (asker e)) there in
      let unknown = get_or-set_same st.greeted 0 None None (omega (arith, is.connections, is.is_lab.some_sessions)) in
      let known = get_or-set_same (left st).greeted 0 (Some (asker e)) None (omega (arith, left_is.connections, is.is_lab.some_sessions)) in
      let here : st.world.place < lab.events = omega (arith, room) in
      let comes = command_comes lab is.is_lab st.world e (grind (arith, nat_tests, number_list, place-is)) of kinds.0 in
      let told = command_turn (hailed st (asker e)) e hailed_is running both.0 here known comes.0 in
      let next_is = IsHall-event lab (hailed st (asker e)) hailed_is e both.0 here in
      let place : (after st.world e).place + length es ≤ lab.events = omega (arith, room, next_place st.world e) in
      let rest = asks n (with_event (hailed st (asker e)) e) es next_is running both.1 kinds.1 stable place (omega (arith, few)) in (
        reply.Bye ∷ reply.Hello (asker e) ∷ told.0 ∷ rest.0,
        rest.1,
        record {
          few = few;
          forward = forward;
          may_come = (bye_comes lab is.is_lab, ((hello_comes lab is.is_lab (asker e) there).1, (comes.1, rest.2.may_come)));
          run = (left st, bye_turn st, (hailed st (asker e), hello_turn (left st) (asker e) is.is_lab there unknown, (_, told.2, rest.2.run)));
          granted = and_from (is_granted told.0) (list_all is_granted rest.0) told.1 rest.2.granted;
          world = rest.2.world;
          stable = rest.2.stable;
        },
      )

  -- ---- a list of events that finishes the run

  pub can_finish : (st : State) → IsHall lab st → st.halted ≡ false → EachHasOwner lab.roster (length lab.ids)
      → st.world.place + events_to_rest (length lab.ids) (link_count st.world.network) ≤ lab.events
      → (es : List Event) × (rs : List Reply) × (end : State)
      × FinishesByAsking lab st (events_to_rest (length lab.ids) (link_count st.world.network)) es rs end
  can_finish st is running owned room =
      let some = reached lab.roster st.world is.world (λ i lt. owned i (omega (arith, lt, is.nodes))) in
      let leads = some.1 in
      let most = events_few lab.roster st.world some.0 is.world leads.legal leads.forward in
      let few : length some.0 ≤ events_to_rest (length lab.ids) (link_count st.world.network) = grind (arith, most, is.nodes) in
      let all = asks _ st some.0 is running leads.legal leads.forward leads.stable (omega (arith, few, room)) few in
      (some.0, all.0, all.1, all.2)

pub lab_can_finish : (bytes : List ℕ) (lab : LabValue) → lab_of bytes ≡ Ok lab → events_to_rest (length lab.ids) (link_count lab.network) ≤ lab.events
    → (es : List Event) × (rs : List Reply) × (end : State)
    × FinishesByAsking lab (opening lab) (events_to_rest (length lab.ids) (link_count lab.network)) es rs end
lab_can_finish bytes lab spelled room =
    let is = lawful bytes lab spelled in
    can_finish lab (opening lab) (IsHall-opening lab is (opening-world lab is)) refl (λ i lt. (one_or_two bytes lab i spelled lt).0) (omega (arith, room))
