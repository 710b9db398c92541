-- If two labs agree in everything that a journal names, and allow the same number of events, each audit has the same
-- result in both. A world is the state of a run after some events: its network and its chosen moves.
use Rattle.std.proofs.{lemmas.Bool.Decides.nat_tests, Common.◌≡◌, Common.ℕ, Common.Bool, Common.List, Common.[], Common.◌∷◌, Common.refl, Common.ap, Common.arith}
use Rattle.std.{proofs.lemmas.Bool.cases_Bool, specs.Result.is_ok}
use Rattle.mml_lab.specs.{declared.who.Who.Who, Rosters.owns, Labs.LabValue, Labs.IsLab}
use Rattle.mml_lab.proofs.RosterMeaningLemmas.{owner_there}
use Rattle.mml_board.specs.{declared.event.Event.Event, World.World, Events.is_legal, Clauses.check, Clauses.asker, Clauses.act_of}
use Rattle.mml_audit.specs.{Audit.event_in, Audit.after_lines, Audit.audited}
use Rattle.mml_record.proofs.RiseLemmas.{owned_within}
use Rattle.mml_lab_file.specs.Sameness.{IsSameLab}
use Rattle.mml_laws.proofs.SameLabsLemmas.{said_alike, networks_alike}
use Rattle.mml_lab.specs.declared.who.Who.TheVariants as who

module _ (a b : LabValue) (la : IsLab a) (lb : IsLab b) (is : IsSameLab a b) where
  student_owns : (s i : ℕ) → owns a.roster (who.Student s) i ≡ owns b.roster (who.Student s) i
  student_owns s i =
      let a_there = owner_there a.roster s i la.roster in
      let b_there = owner_there b.roster s i lb.roster in
      let a_within = owned_within a.roster (who.Student s) i in
      let b_within = owned_within b.roster (who.Student s) i in
      let both = cases_Bool (owns a.roster (who.Student s) i) in
      grind (arith, nat_tests, a_there, b_there, a_within, b_within, is.nodes i, both, cases_Bool (owns b.roster (who.Student s) i))

  each_owns : (x : Who) (i : ℕ) → owns a.roster x i ≡ owns b.roster x i
  each_owns x i = grind (arith, nat_tests, student_owns)

  -- each participant owns the same nodes in both labs
  pub owns_alike : owns a.roster ≡ owns b.roster
  owns_alike t = λ x i. each_owns x i t

  -- an event is legal in both labs or in neither
  pub legal_alike : (w : World) (e : Event) → is_legal a.roster w e ≡ is_legal b.roster w e
  unfolding is_legal
  legal_alike w e = ap (λ (owner : Who → ℕ → Bool). is_ok (check owner w (asker e) (act_of w e))) owns_alike

  module _ (limit : a.events ≡ b.events) where
    event_alike : (w : World) (line : List ℕ) → event_in a w line ≡ event_in b w line
    event_alike w line = grind (arith, nat_tests, said_alike, owns_alike)

    lines_alike : (lines : List (List ℕ)) (w : World) → after_lines a w lines ≡ after_lines b w lines
    lines_alike [] w = refl
    lines_alike (line ∷ lines) w = grind (arith, nat_tests, event_alike w line, event_in b w line, lines_alike lines)

    -- bytes pass the audit in both labs and lead to the same world, or have the same error
    pub audits_alike : (bytes : List ℕ) → audited a bytes ≡ audited b bytes
    audits_alike bytes = grind (arith, nat_tests, networks_alike, lines_alike)
