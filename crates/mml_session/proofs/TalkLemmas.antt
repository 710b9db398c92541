-- The window after a turn, a run or a talk. A run is turns one after another; a talk is a run in which no line is too
-- long and no reply is to a bye. The place of an event is its number in the list of events, from 1. A window is what a
-- session has seen of this list, and the places of the events that were granted to it.
use Rattle.std.{proofs.lemmas.Bool.Decides.nat_tests, specs.Prelude.IfSome, specs.List.AllByRecursion, proofs.lemmas.List.Elements.All-from_recursion}
use Rattle.std.proofs.Common.{◌≡◌, ℕ, ◌+◌, ◌-◌, length, arith, List, [], ◌++◌, flat_map, sym, ◌∙◌, ap, append_assoc, append-nil, All, inl, inr}
use mathlib.Core.List.{IsPrefix}
use Rattle.mml_lab.specs.{Labs.LabValue}
use Rattle.mml_ids.specs.Lines.{IsUnbroken}
use Rattle.mml_lines.specs.LinesOf.{IsWithinLimit}
use Rattle.mml_lines.proofs.{RunsLemmas.by_steps, RunsLemmas.run_keeps}
use Rattle.mml_codec.specs.{declared.TheConstants.MAX_REQUEST, declared.reply.Reply.Reply, Replies.place_in, declared.greeting.Greeting.Greeting}
use Rattle.mml_window.specs.Windows.{WindowValue}
use Rattle.mml_window.proofs.PrefixLemmas.{prefix_self, prefix_trans}
use Rattle.mml_session.specs.{Turns.Standing, Turns.places_in, Turns.halts_in, Turns.halts_of, Turns.spare_in, Turns.Settles, Turns.Turn, Turns.Run, Talks.Talk, Talks.LineTurn}
use Rattle.mml_session.proofs.{EngineLemmas.seen_told, EngineLemmas.turn_does, GreetingLemmas.IsPlain, GreetingLemmas.plain_greeting}
use Rattle.mml_engine.proofs.NamingLemmas as naming

-- the window's places are the old ones, and then those that the reply names; the window has seen all that it had seen
-- before
pub record WentOn (old new : WindowValue) (r : Reply) : Type 0 where
  pub places : new.places ≡ old.places ++ places_in r
  pub seen : IsPrefix old.seen new.seen

module _ (lab : LabValue) where
  -- each turn goes on from what the window had seen and was granted
  pub turn_on : (st next : Standing) (line : List ℕ) (r : Reply) → Turn lab st line r next → WentOn st.window next.window r
  turn_on st next line r h = record {
    places = grind (arith, nat_tests, append-nil, turn_does lab st next r line h);
    seen = elim (turn_does lab st next r line h) [
      | inl q ↦ rw q.view (prefix_self st.window.seen)
      | inr t ↦ naming.told_on lab st.window.seen next.window.seen t.who t.command r (seen_told lab st.window t.who t.command r next.window t.told)
    ];
  }

  -- if the reply of a turn names an event, the window had counted no refusal `journal`
  pub turn_unhalted : (st next : Standing) (line : List ℕ) (r : Reply) → Turn lab st line r next → IfSome (place_in r) (λ place. st.window.halts ≡ 0)
  turn_unhalted st next line r h = grind (arith, nat_tests, turn_does lab st next r line h)

  same_count : (st next : Standing) (r : Reply) → next.window ≡ st.window → halts_in r ≡ 0 → next.window.halts ≡ st.window.halts + halts_in r
  same_count st next r same none = omega (arith, ap (λ (w : WindowValue). w.halts) same, none)

  unhalted_unspared : (n : ℕ) (r : Reply) → halts_in r ≡ 0 → spare_in n r ≡ 0
  unhalted_unspared n r none = grind (arith, nat_tests)

  settled_spare : (st next : Standing) (g : Greeting) (r : Reply) → IsPlain g → Settles lab st g r next
      → next.window.spare ≡ st.window.spare + spare_in (lab.events - length next.window.seen) r
  settled_spare st next g r plain h = grind (arith, nat_tests, ap, unhalted_unspared)

  -- a turn adds as many events to `spare` as the lab allows after it, if its reply is the refusal `journal`
  pub turn_spares : (st after : Standing) (t : LineTurn lab st after)
      → after.window.spare ≡ st.window.spare + spare_in (lab.events - length after.window.seen) t.reply
  turn_spares st after t = grind (arith, nat_tests, settled_spare, plain_greeting, ap, unhalted_unspared)

  -- a turn adds 1 to the window's count of refusals if its reply is the refusal `journal`
  pub turn_halts : (st after : Standing) (t : LineTurn lab st after) → after.window.halts ≡ st.window.halts + halts_in t.reply
  turn_halts st after t = grind (arith, nat_tests, plain_greeting, same_count)

  -- a run adds the number of its refusals `journal` to the window's count
  pub run_halts : (st end : Standing) (ls : List (List ℕ)) (rs : List Reply) → Run lab st ls rs end → end.window.halts ≡ st.window.halts + halts_of rs
  run_halts = by_steps (Turn lab) (λ st ls rs end. end.window.halts ≡ st.window.halts + halts_of rs) (λ st. omega arith)
      (λ st next end l r ls rs turn rest. grind (arith, rest, nat_tests, plain_greeting, same_count))

  -- a turn adds the places that its reply names
  pub turn_places : (st after : Standing) (t : LineTurn lab st after) → after.window.places ≡ st.window.places ++ places_in t.reply
  turn_places st after t = (turn_on st after t.line t.reply t.turn).places

  -- after a turn, the window has seen what it had seen before, and perhaps more
  pub turn_seen : (st after : Standing) (t : LineTurn lab st after) → IsPrefix st.window.seen after.window.seen
  turn_seen st after t = (turn_on st after t.line t.reply t.turn).seen

  -- a run adds the places that its replies name
  pub run_places : (st end : Standing) (ls : List (List ℕ)) (rs : List Reply) → Run lab st ls rs end
      → end.window.places ≡ st.window.places ++ flat_map places_in rs
  run_places = by_steps (Turn lab) (λ st ls rs end. end.window.places ≡ st.window.places ++ flat_map places_in rs) (λ st. sym (append-nil st.window.places))
      (λ st next end l r ls rs turn rest. rest ∙ rw (turn_on st next l r turn).places (append_assoc st.window.places (places_in r) (flat_map places_in rs)))

  -- after a talk, the window has seen what it had seen before, and perhaps more
  pub talk_seen : (st : Standing) (t : Talk lab st) → IsPrefix st.window.seen t.end.window.seen
  talk_seen st t = run_keeps (Turn lab) (λ st end. IsPrefix st.window.seen end.window.seen) (λ st. prefix_self st.window.seen)
      (λ st next end. prefix_trans st.window.seen next.window.seen end.window.seen) (λ st next line r turn. (turn_on st next line r turn).seen)
      st t.end t.lines t.replies t.run

-- lines within the limit have no newline
pub each_unbroken : (lines : List (List ℕ)) → AllByRecursion (IsWithinLimit MAX_REQUEST) lines → All IsUnbroken lines
each_unbroken lines each k d less = (All-from_recursion (IsWithinLimit MAX_REQUEST) lines each k d less).0
