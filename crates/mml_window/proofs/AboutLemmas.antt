-- What windows and books answer names only nodes of the lab, and a window that has read on is still a window. A ruling
-- is what the policy decides about a command. A view is a request to be shown something. A window is one session's
-- view of the published events and board. A list of events is legal if the rules allow each event after the earlier
-- ones. The place of an event is its number in the list of events, from 1.
use Rattle.std.{proofs.lemmas.Bool.Decides.nat_tests, specs.Result.IfOk}
use Rattle.std.proofs.Common.{◌≡◌, ℕ, true, false, List, length, Option, Result, Ok, Err, sym, subst, arith, mul-le-mul_left}
use Rattle.mml_lab.specs.{declared.who.Who.Who, Labs.LabValue, Labs.IsLab}
use Rattle.mml_board.specs.{declared.event.Event.Event, World.World, World.IsWorld, Lists.is_legal_in, Lists.world_in}
use Rattle.mml_board.proofs.{WorldLemmas.length-none, WorldLemmas.hold-none, RunsLemmas.list-world}
use Rattle.mml_policy.specs.{declared.command.Command.Command, declared.ruling.Ruling.Ruling, declared.refusal.Refusal.Refusal, About.IsRuled}
use Rattle.mml_policy.proofs.AboutLemmas.{ruled_is}
use Rattle.mml_stable.{specs.declared.stability_report.Report.Report, specs.Reports.NamesNodes, specs.Reports.report_of, proofs.NamedLemmas.report_names}
use Rattle.mml_window.specs.declared.{answer.Answer.Answer, answer.Answer.TheVariants.Granted, answer.Answer.TheVariants.Denied, answer.Answer.TheVariants.Refused, sight.SightFault.SightFault}
use Rattle.mml_window.specs.{declared.seeing.View.View, declared.published.Published.Published, Climbing.Climbs, Rule.Saw, Rulings.ruling_at, Windows.WindowValue, Windows.window_with}
use Rattle.mml_window.specs.{Windows.IsWindow, Views.Shows, Views.AnswersView, Books.BookValue, Answers.Decides, Answers.IsAnswered}
use Rattle.mml_window.proofs.{ListLemmas.nodes_in, TallyLemmas.climbs_more, PrefixLemmas.prefix_length}

module _ (lab : LabValue) (is : IsLab lab) where
  -- the world after a legal list of events is a world of the lab
  pub world_is : (l : List Event) → is_legal_in lab l ≡ true → IsWorld (world_in lab l)
  world_is l legal = grind (arith, nat_tests, list-world, length-none, hold-none)

  -- the ruling on a command after a legal list of events names only nodes of the lab
  ruled_there : (l : List Event) (who : Who) (command : Command) (r : Ruling) → is_legal_in lab l ≡ true → ruling_at lab (world_in lab l) who command ≡ r
      → IsRuled lab.ids r
  ruled_there l who command r legal same =
      subst (IsRuled lab.ids) same (ruled_is lab.ids lab.roster (world_in lab l) (world_is l legal) (sym (nodes_in lab l is)) lab.events false who command)

  -- what a view shows names only nodes of the lab
  pub shown_is : {A : Type 0} (shown : A → Ruling) (old new : WindowValue) (who : Who) (command : Command) (r : Result A SightFault)
      → AnswersView shown lab old who command r new → IfOk r (λ s. IsRuled lab.ids (shown s))
  shown_is shown old new who command (Ok s) t = ruled_there new.seen who command (shown s) t.1.legal t.0
  shown_is shown old new who command (Err fault) t = tt

  -- a report that shows the world after the events that the window has seen names only nodes of the lab
  pub report_is : (shown : Report → Ruling) (old new : WindowValue) (who : Who) (command : Command) (r : Result Report SightFault)
      → AnswersView shown lab old who command r new → IfOk r (λ told. told ≡ report_of (world_in lab new.seen))
      → IfOk r (NamesNodes (length lab.ids))
  report_is shown old new who command (Ok s) t told = rw (told, nodes_in lab new.seen is) (report_names (world_in lab new.seen) (world_is new.seen t.1.legal))
  report_is shown old new who command (Err fault) t told = tt

  -- the answer that a book decides names only nodes of the lab
  pub answered_is : {S : Type 0} (failures : S → ℕ) (old new : BookValue S) (who : Who) (command : Command) (answer : Answer)
      → is_legal_in lab old.events ≡ true → Decides lab failures old who command answer new → IsAnswered lab.ids answer
  answered_is failures old new who command (Denied d) legal h = tt
  answered_is failures old new who command (Refused why) legal h = tt
  answered_is failures old new who command (Granted place number done) legal h = ruled_there old.events who command _ legal h.1.ruled

-- a window that has read on, and has places among the events that it has then seen, is a window
pub window_on : (lab : LabValue) (x : Published) (v w u : View) (ps qs : List ℕ) (why why' : Option Refusal) (n m : ℕ) → Saw lab v x w → u ≡ w
    → Climbs 0 qs (length x.events.items) → IsWindow lab (window_with v.seen ps why n m) → IsWindow lab (window_with u.seen qs why' n m)
window_on lab x v w u ps qs why why' n m saw left climbs is = rw (left, saw.view) (record {
  lawful = is.lawful;
  legal = saw.published.legal;
  few = saw.published.few;
  climbs = climbs;
  spares = record { least = grind (arith, nat_tests, mul-le-mul_left, is.spares.least, prefix_length v.seen x.events.items saw.begins) };
})

-- a window that has read on is a window
pub window_entered : (lab : LabValue) (x : Published) (v w u : View) (ps : List ℕ) (why : Option Refusal) (n m : ℕ) → Saw lab v x w → u ≡ w
    → IsWindow lab (window_with v.seen ps why n m) → IsWindow lab (window_with u.seen ps why n m)
window_entered lab x v w u ps why n m saw left is =
    window_on lab x v w u ps ps why why n m saw left (climbs_more 0 ps _ _ (prefix_length _ _ saw.begins) is.climbs) is

-- if a reader enters, the result shows the ruling on the board that it sees, and the reader leaves, the result answers
-- the view. The window's places, its last refusal and its count of refusals stay as they were
pub tells_entered : {A : Type 0} (shown : A → Ruling) (lab lab' : LabValue) (x : Published) (v w u : View) (board : World) (who : Who) (command : Command)
    (r : Result A SightFault) (old : WindowValue) (ps : List ℕ) (why : Option Refusal) (n m : ℕ)
    → lab' ≡ lab → Saw lab v x w → u ≡ w → board ≡ x.board → old ≡ window_with v.seen ps why n m
    → Shows shown (ruling_at lab' board who command) r → AnswersView shown lab old who command r (window_with u.seen ps why n m)
tells_entered shown lab lab' x v w u board who command r old ps why n m named saw left read was s = grind (arith, nat_tests)
