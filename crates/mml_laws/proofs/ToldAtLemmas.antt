-- The event that a reply names.
use Rattle.std.proofs.Common.{◌≡◌, ◌≤◌, ◌+◌, ℕ, Bool, true, false, List, [], ◌∷◌, ◌++◌, length, Option, Some, Ok, refl, sym, ap, ◌∙◌, arith, append_assoc}
use Rattle.std.{specs.List.slice_get, proofs.lemmas.Bool.and_parts, proofs.lemmas.Bool.Decides.nat_tests}
use mathlib.Core.List.{IsPrefix}
use Rattle.mml_lab.specs.{declared.who.Who.Who, Labs.LabValue, Labs.IsLab}
use Rattle.mml_board.{specs.declared.done.Done.Done, specs.declared.event.Event.Event, proofs.EventsLemmas.next_place}
use Rattle.mml_board.specs.{World.World, World.opening_of, Events.is_legal, Events.after, Runs.is_legal_list, Runs.world_of, Lists.is_legal_in, Lists.world_in}
use Rattle.mml_policy.specs.declared.{command.Command.Command, ruling.Ruling.TheVariants.Granted}
use Rattle.mml_journal.specs.EventLines.{event_line}
use Rattle.mml_audit.proofs.AuditMeaningLemmas.{IsReached, reached_next, reached_first}
use Rattle.mml_codec.specs.{declared.reply.Reply.Reply, declared.request.Request.TheVariants.Do, Lines.request_in, Rulings.reply_of_done}
use Rattle.mml_engine.specs.Named.{NamesLast}
use Rattle.mml_window.specs.Rulings.{ruling_while}
use Rattle.mml_laws.{specs.Told.IsToldAt, proofs.JournalsLemmas.lines, proofs.JournalsLemmas.lines_next, proofs.JournalsLemmas.line, proofs.RuledLemmas.ruled_granted}
use Rattle.mml_window.proofs.ListLemmas as lists

-- ---- the line of an event

line_at : (lab : LabValue) (is : IsLab lab) (w : World) (before : List Event) (e : Event) (later : List Event) → IsReached lab w
    → is_legal_list lab.roster w (before ++ e ∷ later) ≡ true → w.place + length (before ++ e ∷ later) ≤ lab.events
    → slice_get (lines lab is w (before ++ e ∷ later)) (length before) ≡ Some (line lab is (world_of w before) e)
line_at lab is w [] e later on legal few = grind (arith, nat_tests, and_parts (is_legal lab.roster w e) (is_legal_list lab.roster (after w e) later) legal, lines_next)
line_at lab is w (f ∷ before) e later on legal few =
    let both = and_parts (is_legal lab.roster w f) (is_legal_list lab.roster (after w f) (before ++ e ∷ later)) legal in
    let first = lines_next lab is w f (before ++ e ∷ later) on both.0 (omega (arith, few)) in
    rw first (line_at lab is (after w f) before e later (reached_next lab w f on both.0) both.1 (omega (arith, few, next_place w f)))

-- ---- the event that a reply names

module _ (lab : LabValue) (is : IsLab lab) (l before : List Event) (e : Event) (later : List Event) (done : Done) (x : Who) (c : Command) (r : Reply)
    (halted : Bool) (order : l ≡ before ++ e ∷ later) (legal : is_legal_in lab l ≡ true) (few : length l ≤ lab.events) where
  pub told_at : ruling_while lab halted (world_in lab before) x c ≡ Granted e done
      → r ≡ reply_of_done (after (world_in lab before) e).number (after (world_in lab before) e).place done
      → IsToldAt lab l (length before + 1) x c r
  told_at ruled reply =
      let w = world_in lab before in
      let place = lists.place_in lab before in
      let facts = (ruled_granted lab.ids lab.roster lab.events halted w x c e done).0 ruled in
      let at = line_at lab is (opening_of lab.network) before e later (reached_first lab is) (rw order at legal) (omega (arith, few, ap length order)) in
      let next : (after w e).place ≡ length before + 1 = omega (arith, next_place w e, place) in
      record {
        before = before;
        event = e;
        later = later;
        done = done;
        order = order;
        place = refl;
        ruled = (ruled_granted lab.ids lab.roster lab.events false w x c e done).1 (facts.0, facts.1, refl, facts.3);
        line = rw order (at ∙ ap (λ n. Some (event_line lab.ids lab.roster (n + 1) (world_in lab before).number e)) place);
        reply = grind (arith, reply, next, lists.world-one_more lab before e);
      }

-- if a list begins with some events and one more event, this event is in the list, and others follow it
pub longer : {A : Type 0} (before : List A) (e : A) (l : List A) → IsPrefix (before ++ e ∷ []) l → (later : List A) × (l ≡ before ++ e ∷ later)
longer before e l p = (p.0, sym p.1 ∙ append_assoc before (e ∷ []) p.0)

-- if a reply names the last event that a session has seen, this event is in each list that begins with what the session
-- has seen
pub names_in : (lab : LabValue) → IsLab lab → (l : List Event) → is_legal_in lab l ≡ true → length l ≤ lab.events
    → (known : Option Who) (line : List ℕ) (r : Reply) (p : ℕ) (seen : List Event) → NamesLast lab known line r p seen → IsPrefix seen l
    → (x : Who) × (c : Command) × (known ≡ Some x) × (request_in line ≡ Ok (Do c)) × IsToldAt lab l p x c r
names_in lab is l legal few known line r p seen n begins =
    let more = longer n.before n.event l (rw n.last at begins) in
    let place : length n.before + 1 ≡ p = omega (arith, lists.place_in lab n.before, next_place (world_in lab n.before) n.event, n.place) in
    let reply = n.reply ∙ ap (λ k. reply_of_done (after (world_in lab n.before) n.event).number k n.done) n.place in
    let told = told_at lab is l n.before n.event more.0 n.done n.who n.command r false more.1 legal few n.ruled reply in
    (n.who, n.command, n.by, n.asked, rw place at told)
