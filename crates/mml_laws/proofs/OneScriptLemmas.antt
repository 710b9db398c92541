-- A timeline of all connections of a house is the run of a script in one thread. A timeline has what was said on the
-- connections, in order, and the events that this caused. A house is one run of a lab that threads share.
use Rattle.std.proofs.lemmas.{Bool.Decides.nat_tests, Bool.cases_eq, Fmt.length-decimal-le, List.length-map, List.length-replicate, List.get_or-replicate}
use Rattle.std.proofs.Common.{◌≡◌, ◌<◌, ◌≤◌, ◌+◌, ◌-◌, ℕ, true, false, List, [], ◌∷◌, length, map, All, Option, None, refl, sym, ap, ◌∙◌, inl, inr, arith, length-append}
use Rattle.std.proofs.lemmas.{List.Elements.All-replicate, List.Elements.recursion_from_All, Slice.Zip.AllZip-long}
use Rattle.std.specs.{Prelude.IfSome, List.AllByRecursion}
use mathlib.Core.List.{IsPrefix}
use Rattle.mml_lab.specs.{declared.who.Who.Who, declared.TheConstants.MAX_SESSIONS, Labs.LabValue, Labs.IsLab, Rosters.IsPrincipal}
use Rattle.mml_board.specs.{declared.event.Event.Event, World.opening_of, Lists.is_legal_in}
use Rattle.mml_board.proofs.RunsLemmas.{legal-beginning, list-world}
use Rattle.mml_codec.specs.{declared.reply.Reply.Reply}
use Rattle.mml_window.proofs.{ListLemmas.nodes_in, PrefixLemmas.prefix_length}
use Rattle.mml_window.specs.{Windows.WindowValue, Windows.window, Tallies.times, Tallies.told_of, Tallies.IsEachOnceFrom}
use Rattle.mml_hall.specs.{Transcripts.Transcript, Halls.IsHall, Turns.State, Turns.RequestLine, Turns.Run, Turns.known_on, ScriptLines.IsScriptLine, ScriptLines.request_on}
use Rattle.mml_hall.proofs.TurnsLemmas.{others_turn}
use Rattle.mml_tally.proofs.StudentsLemmas.{opening-world}
use Rattle.mml_laws.specs.{Served.Answered, Served.AreConversations, Served.AreHeard, Served.AreWritten, OneScript.answers_on, OneScript.AreOn, OneScript.IsOneScript, OneScript.on_one_connection}
use Rattle.mml_laws.specs.{OneScript.state_after}
use Rattle.mml_laws.proofs.{HallStepsLemmas.HallStep, HallStepsLemmas.IsAfter, HallStepsLemmas.Leads, ConversationsLemmas.Fine, ConversationsLemmas.house_timeline}
use Rattle.mml_laws.proofs.WeavingLemmas.{Item, upto, on, on_hit, on_skip, IsWhole, whole, Among, Steps, EachSays, each_steps}

-- ---- what a timeline says, as lines of a script

-- the lines of a script in the order in which a timeline has them
abbrev lines_of : List (Item Answered) → List RequestLine
lines_of is = map (λ i. request_on i.connection i.said.line) is

abbrev replies_of : List (Item Answered) → List Reply
replies_of is = map (λ i. i.said.reply) is

on_same : (k : ℕ) (is : List (Item Answered)) → answers_on k (lines_of is) (replies_of is) ≡ map (λ i. i.said) (on k is)
on_same k [] = refl
on_same k (i ∷ is) = grind (arith, nat_tests, on_same k is)

may_come : (n : ℕ) (is : List (Item Answered)) → n ≤ MAX_SESSIONS → Among Fine 1 (1 + n) is → AllByRecursion (IsScriptLine n) (lines_of is)
may_come n [] few may = tt
may_come n (i ∷ is) few may = (grind (arith, nat_tests, length-decimal-le 2 i.connection, length-append), may_come n is few may.1)

-- ---- the run of this script

module _ (lab : LabValue) (n : ℕ) (all : List Event) where
  -- what is said on each connection are steps, from the participant who is known there
  abbrev AreLines : State → List (Item Answered) → Type 0
  AreLines s is = (k : ℕ) → 0 < k → k ≤ n → Steps (HallStep lab n) Fine (known_on s k) (on k is)

  record Ran (s : State) (is : List (Item Answered)) : Type 0 where
    end : State
    run : Run lab s (lines_of is) (replies_of is) end
    events : end.events ≡ all
    running : end.halted ≡ false

  -- after an item, what is said on each connection are still steps
  lines_after : (s : State) (i : Item Answered) (is : List (Item Answered)) (known : Option Who) (o : Leads lab n s i.connection i.said known (upto i))
      → 0 < i.connection → Steps (HallStep lab n) Fine known (on i.connection is) → AreLines s (i ∷ is) → AreLines o.next is
  lines_after s i is known o some here lines k some' within = elim (cases_eq k i.connection) [
    | inl same ↦ rw (same, o.knows) here
    | inr differ ↦
        rw (others_turn lab s i.connection k i.said.line (record { reply = i.said.reply; state = o.next }) o.turn some some' differ)
        (rw (on_skip k i is (λ same. differ (sym same))) at (lines k some' within))
  ]

  runs : (is : List (Item Answered)) (l : List Event) (s : State) → IsAfter lab n l s → AreLines s is → IsWhole l all is → Among Fine 1 (1 + n) is → Ran s is
  runs [] l s is_after lines one may = record { end = s; run = refl; events = is_after.events ∙ one; running = is_after.running }
  runs (i ∷ is) l s is_after lines one may =
      let within : i.connection ≤ n = omega (arith, may.0.1) in
      let h = rw (on_hit i.connection i is refl) at (lines i.connection may.0.0 within) in
      let o : Leads lab n s i.connection i.said h.0 (upto i) = h.1 s i.connection (rw one.0 at is_after) refl may.0.0 within in
      let rest = runs is (upto i) o.next o.after (lines_after s i is h.0 o may.0.0 h.2 lines) one.1 may.1 in
      record { end = rest.end; run = (o.next, o.turn, rest.run); events = rest.events; running = rest.running }

are_on : (lab : LabValue) (n : ℕ) (begun all : List Event) (j : ℕ) (saids : List (List Answered)) (is : List (Item Answered))
    → EachSays (HallStep lab n) Fine None begun all j saids is → AreOn j (lines_of is) (replies_of is) saids
are_on lab n begun all j [] is each = tt
are_on lab n begun all j (said ∷ others) is each = (on_same j is ∙ each.0.1, are_on lab n begun all (j + 1) others is each.1)

-- ---- houses

-- the state after the first events of a legal list is a lawful state of a hall
lawful_after : (lab : LabValue) (begun all : List Event) → IsLab lab → IsPrefix begun all → is_legal_in lab all ≡ true → length all ≤ lab.events
    → IsHall lab (state_after lab begun)
lawful_after lab begun all is begins legal few =
    let first : is_legal_in lab begun ≡ true =
    legal-beginning lab.roster (opening_of lab.network) begun begins.0 (ap (is_legal_in lab) begins.1 ∙ legal) in
    let world = list-world lab.roster (opening_of lab.network) begun (opening-world lab is) first in
    let members = All-replicate (λ (x : Option Who). IfSome x (IsPrincipal lab.roster)) lab.sessions None tt in
    grind (arith, nat_tests, is, world, nodes_in lab begun is, members, prefix_length begun all begins, length-replicate)

-- a house in which no reply is the refusal `journal` is one script
pub one_script : (lab : LabValue) (begun all : List Event) (seats : List (List (List Answered))) (windows : List WindowValue) → IsLab lab
    → AreHeard lab begun seats windows → AllByRecursion AreWritten seats → length windows ≡ lab.sessions → IsPrefix begun all
    → is_legal_in lab all ≡ true → length all ≤ lab.events → All (λ w. IsPrefix w.seen all) windows → IsEachOnceFrom (length begun) (length all) (told_of windows) → IsOneScript lab begun all seats
one_script lab begun all seats windows is_lab heard written count begins legal room seen once =
    let few : (p : ℕ) → times p (told_of windows) ≤ 1 = λ p. grind (arith, nat_tests, once p) in
    let t = house_timeline lab lab.sessions begun all begins.0 begins.1 1 seats windows heard written seen few in
    let one : IsWhole begun all t.items =
    whole begun all t.items t.order (λ p above within. grind (arith, nat_tests, t.places p, once p)) in
    let connections : length (map on_one_connection seats) ≡ lab.sessions = length-map seats on_one_connection ∙ sym (AllZip-long (AreConversations lab (window begun [])) seats windows heard) ∙ count in
    let may = rw connections at t.only in
    let at : IsAfter lab lab.sessions begun (state_after lab begun) =
    record { world = refl; events = refl; running = refl; count = length-replicate lab.sessions None } in
    let lines : AreLines lab lab.sessions all (state_after lab begun) t.items =
    λ k some within.
    rw (get_or-replicate {A = Option Who} lab.sessions (k - 1) None None (omega (arith, some, within)))
    (each_steps (HallStep lab lab.sessions) Fine None begun all 1 k (map on_one_connection seats) t.items t.each some (omega (arith, within, connections))) in
    let ran = runs lab lab.sessions all t.items begun (state_after lab begun) at lines one may in record {
      lines = lines_of t.items;
      replies = replies_of t.items;
      end = ran.end;
      lawful = lawful_after lab begun all is_lab begins legal room;
      may_come = may_come lab.sessions t.items is_lab.few_sessions may;
      run = ran.run;
      events = ran.events;
      running = ran.running;
      connections = are_on lab lab.sessions begun all 1 (map on_one_connection seats) t.items t.each;
    }

-- a script that begins without events is a transcript
pub as_transcript : (lab : LabValue) (all : List Event) (seats : List (List (List Answered))) (s : IsOneScript lab [] all seats)
    → (t : Transcript lab) × (t.lines ≡ s.lines) × (t.replies ≡ s.replies) × (t.end ≡ s.end)
as_transcript lab all seats s =
    let any = recursion_from_All (λ (r : Reply). Unit {0}) s.replies (λ k d lt. tt) in
    (record { lines = s.lines; replies = s.replies; end = s.end; each = s.may_come; goes_on = any; run = s.run }, refl, refl, refl)
