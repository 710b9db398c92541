-- The ruling on a command, concluded from its verdict.
use Rattle.std.proofs.Common.{◌≡◌, ◌↔◌, ◌<◌, ◌≤◌, ℕ, Bool, true, false, List, Result, Ok, refl, arith}
use Rattle.std.proofs.lemmas.Bool.{Decides.nat_tests}
use Rattle.mml_lab.specs.{declared.who.Who.Who, Rosters.RosterValue}
use Rattle.mml_board.specs.{declared.done.Done.Done, declared.event.Event.Event, World.World, Events.done_by, declared.denial.Denial.Denial}
use Rattle.mml_policy.specs.{declared.command.Command.Command, Rulings.ruled, Rulings.ruling, Verdicts.clauses, Verdicts.settled, Verdicts.verdict}
use Rattle.mml_policy.specs.declared.ruling.Ruling.{TheVariants.Denied, TheVariants.Full, TheVariants.Journal, TheVariants.Granted}
use Rattle.mml_policy.specs.declared.verdict.Leave.{Leave, TheVariants.Grant}
use Rattle.mml_laws.specs.Ruled.{IsGrantable, IsShown}
use Rattle.mml_policy.specs.declared.verdict.Verdict.TheVariants as verdicts

module _ (w : World) (limit : ℕ) (halted : Bool) where
  denied_so : (s : Result Leave Denial) (d : Denial) → (ruled limit halted w s ≡ Denied d) ↔ (settled s ≡ verdicts.Deny d)
  denied_so s d = (λ h. grind (arith, nat_tests), λ h. grind (arith, nat_tests))

  shown_so : (s : Result Leave Denial) → IsShown (ruled limit halted w s) ↔ (settled s ≡ verdicts.Show)
  shown_so s = (λ h. grind (arith, nat_tests), λ h. grind (arith, nat_tests))

  full_so : (s : Result Leave Denial) → (ruled limit halted w s ≡ Full) ↔ (((e : Event) × (settled s ≡ verdicts.Grant e)) × (limit ≤ w.place))
  full_so (Ok (Grant e)) = (λ h. ((e, refl), grind (arith, nat_tests)), λ h. grind (arith, nat_tests))
  full_so _ = (λ h. absurd cc, λ h. absurd (cc h.0.1))

  journal_so : (s : Result Leave Denial) → (ruled limit halted w s ≡ Journal)
      ↔ (((e : Event) × (settled s ≡ verdicts.Grant e)) × (w.place < limit) × (halted ≡ true))
  journal_so (Ok (Grant e)) = (λ h. ((e, refl), grind (arith, nat_tests), grind (arith, nat_tests)), λ h. grind (arith, nat_tests))
  journal_so _ = (λ h. absurd cc, λ h. absurd (cc h.0.1))

  granted_so : (s : Result Leave Denial) (e : Event) (done : Done) → (ruled limit halted w s ≡ Granted e done)
      ↔ ((settled s ≡ verdicts.Grant e) × (w.place < limit) × (halted ≡ false) × (done ≡ done_by w e))
  granted_so s e done = (λ h. grind (arith, nat_tests), λ h. grind (arith, nat_tests))

module _ (ids : List ℕ) (r : RosterValue) (limit : ℕ) (halted : Bool) (w : World) (x : Who) (c : Command) where
  pub ruled_denied : (d : Denial) → (ruling ids r limit halted w x c ≡ Denied d) ↔ (verdict ids r w x c ≡ verdicts.Deny d)
  ruled_denied d = denied_so w limit halted (clauses ids r w x c) d

  pub ruled_shown : IsShown (ruling ids r limit halted w x c) ↔ (verdict ids r w x c ≡ verdicts.Show)
  ruled_shown = shown_so w limit halted (clauses ids r w x c)

  pub ruled_full : (ruling ids r limit halted w x c ≡ Full) ↔ (IsGrantable ids r w x c × (limit ≤ w.place))
  ruled_full = full_so w limit halted (clauses ids r w x c)

  pub ruled_journal : (ruling ids r limit halted w x c ≡ Journal) ↔ (IsGrantable ids r w x c × (w.place < limit) × (halted ≡ true))
  ruled_journal = journal_so w limit halted (clauses ids r w x c)

  pub ruled_granted : (e : Event) (done : Done) → (ruling ids r limit halted w x c ≡ Granted e done)
      ↔ ((verdict ids r w x c ≡ verdicts.Grant e) × (w.place < limit) × (halted ≡ false) × (done ≡ done_by w e))
  ruled_granted e done = granted_so w limit halted (clauses ids r w x c) e done
