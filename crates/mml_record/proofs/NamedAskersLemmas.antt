-- If a known student is denied something in a record, the tally has a name for the denial, and the clause is the one
-- that belongs to this name.
use Rattle.std.proofs.Common.{◌≡◌, ℕ, Bool, true, nat_le, List, [], ◌∷◌, sym, subst, Option, None, Some, Result, arith}
use Rattle.std.{specs.Prelude.IfErr, specs.Prelude.is_some, specs.Prelude.option_map, proofs.lemmas.Bool.Decides.nat_tests}
use Rattle.mml_ids.specs.Ids.{rank_in}
use Rattle.mml_ids.proofs.GivesLemmas.{bind-deny, need-deny}
use Rattle.mml_rules.specs.declared.rule.Rule.{Rule}
use Rattle.mml_lab.specs.{declared.who.Who.Who, Labs.LabValue, Rosters.RosterValue, Rosters.owns}
use Rattle.mml_board.specs.{declared.denial.Denial.Denial, declared.event.Event.Event, Clauses.check, World.World}
use Rattle.mml_board.proofs.DenialsLemmas.{of_err}
use Rattle.mml_policy.specs.{declared.command.Command.Command, declared.verdict.Leave.Leave, Clauses.rule_of, Rulings.ruled, Verdicts.clauses}
use Rattle.mml_policy.proofs.VerdictLemmas.{granted-deny}
use Rattle.mml_codec.specs.{declared.reply.Reply.Reply, Rulings.reply_of}
use Rattle.mml_tally.specs.{declared.ask.Ask.Ask, StudentDenials.student_denial, StudentDenials.clause_named, StudentDenials.IsNamed, StudentDenials.AreNamed}
use Rattle.mml_record.specs.{declared.kept_entry.Entry.Entry, Asks.student_of, Asks.clause_in, Asks.asks_in, Asks.AreAskedOf, DenialNames.denial_in}
use Rattle.mml_record.specs.Certified.{first_stage, Fits, IsRecordOf}
use Rattle.mml_record.proofs.AsksLemmas.{asked_of_rules}
use Rattle.mml_lab.specs.declared.who.Who.TheVariants as who
use Rattle.mml_board.specs.declared.act.Act.TheVariants as acts
use Rattle.mml_policy.specs.declared.command.Command.TheVariants as command
use Rattle.mml_record.specs.declared.kept_entry.Entry.TheVariants as entry

-- ---- the denials that a student can get

abbrev IsOfStudent : Denial → Type 0
IsOfStudent d = is_some (student_denial d) ≡ true

module _ (ids : List ℕ) (r : RosterValue) (w : World) (s : ℕ) where
  move_denied : (found : Option ℕ) (rule : Option Rule) (at : ℕ) → IfErr (check (owns r) w (who.Student s) (acts.Move found rule at)) IsOfStudent
  move_denied found rule at = grind (arith, nat_tests, bind-deny, need-deny, of_err IsOfStudent {A = ℕ}, of_err IsOfStudent {A = Rule})

  student_denied : (c : Command) → IfErr (clauses ids r w (who.Student s) c) IsOfStudent
  student_denied (command.Move id a at) = granted-deny IsOfStudent _ (move_denied (rank_in ids id) (rule_of ids a) at)
  student_denied c = grind (arith, nat_tests, bind-deny, of_err, need-deny)

-- ---- the reply to a known student names its denial

-- the clause in the reply is that of the denial that the reply names; a reply that names no denial has no clause
abbrev IsNamedIn : Reply → Type 0
IsNamedIn r = clause_in r ≡ option_map clause_named (denial_in r)

ruled_named : (limit : ℕ) (halted : Bool) (v w : World) (s : Result Leave Denial) → IfErr s IsOfStudent → IsNamedIn (reply_of v (ruled limit halted w s))
ruled_named limit halted v w s h = grind (arith, nat_tests, nat_le limit w.place)

module _ (lab : LabValue) (l first : List Event) where
  one_named : (s : ℕ) (line : List ℕ) (r : Reply) (known' : Option Who) → Fits lab l first (Some (who.Student s)) line r known' → IsNamedIn r
  one_named s line r known' fact = grind (arith, nat_tests, ruled_named, student_denied)

  pub named_of : (known : Option Who) (line : List ℕ) (r : Reply) (known' : Option Who) → Fits lab l first known line r known'
      → IsNamed (student_of known) (clause_in r) (denial_in r)
  named_of known line r known' f = grind (arith, nat_tests, one_named)

-- ---- all entries

pub are_named : (lab : LabValue) (l : List Event) (known : Option Who) (es : List Entry) (asks : List Ask) → AreAskedOf lab l known es asks → AreNamed asks
are_named lab l known [] asks h = subst AreNamed (sym h) tt
are_named lab l known (entry.Said p line out ∷ es) asks h = grind (arith, nat_tests, named_of, are_named lab l h.1 es h.2 h.6)
are_named lab l known (_ ∷ es) asks h = are_named lab l _ es asks h

pub record_named : (lab : LabValue) (l : List Event) (es : List Entry) (ps : List ℕ) → IsRecordOf lab l es ps → AreNamed (asks_in lab.roster es)
record_named lab l es ps on = are_named lab l None es (asks_in lab.roster es) (asked_of_rules lab l None first_stage 0 es ps on)
