-- When a move is granted, and why it is denied.
use Rattle.std.{proofs.lemmas.Bool.Decides.nat_tests, proofs.lemmas.Bool.eq-eqb, proofs.lemmas.Bool.eqb-true, proofs.lemmas.Bool.eqb-false, proofs.lemmas.Bool.false_from_ne_true, specs.Option.ok_or}
use Rattle.std.proofs.Common.{◌≡◌, ◌↔◌, ℕ, true, List, Option, None, Some, refl, ap, Result, Ok, Err, is_none, ◌==◌, ◌⊎◌, inl, inr, arith}
use Rattle.mml_ids.specs.{Gives.◌>>=◌, Gives.◌>>◌, Gives.need, Ids.rank_in}
use Rattle.mml_ids.proofs.GivesLemmas.{need-from}
use Rattle.mml_rules.specs.{declared.rule.Rule.Rule, Configuration.IsLawful, Rules.guard, Meaning.MayApply}
use Rattle.mml_rules.proofs.MeaningLemmas.{guard-means}
use Rattle.mml_lab.specs.{declared.who.Who.Who, Rosters.RosterValue, Rosters.owns}
use Rattle.mml_board.specs.{declared.event.Event.Event, World.World, World.configuration, World.chosen_at, Clauses.check}
use Rattle.mml_board.specs.declared.denial.Denial.{Denial, TheVariants.NotOwner, TheVariants.Stale, TheVariants.Chosen, TheVariants.Guard}
use Rattle.mml_policy.specs.{declared.command.Asked.Asked, Clauses.rule_of, Verdicts.settled, Verdicts.granted, Verdicts.verdict, Meaning.IsUnguarded, Meaning.IsAsked}
use Rattle.mml_policy.specs.{Meaning.IsOwner, Meaning.MayMove, Meaning.DeniesMove}
use Rattle.mml_board.specs.declared.act.Act.TheVariants as acts
use Rattle.mml_board.specs.declared.event.Event.TheVariants as event
use Rattle.mml_policy.specs.declared.command.Command.TheVariants as command
use Rattle.mml_policy.specs.declared.verdict.Verdict.TheVariants as verdicts

asked_means : (ids : List ℕ) (a : Asked) (q : Rule) → (rule_of ids a ≡ Some q) ↔ IsAsked ids a q
asked_means ids a q = grind (arith, nat_tests)

act-grant : (s : Result Event Denial) (e : Event) → settled (granted s) ≡ verdicts.Grant e → s ≡ Ok e
act-grant s e h = grind arith

act-deny : (s : Result Event Denial) (d : Denial) → settled (granted s) ≡ verdicts.Deny d → s ≡ Err d
act-deny s d h = grind arith

module _ (ids : List ℕ) (r : RosterValue) (w : World) (x : Who) (id : ℕ) (a : Asked) (at : ℕ) (l : IsLawful (configuration w)) where
  abbrev IsMove : Event → Type 0
  IsMove e = (s : ℕ) × (i : ℕ) × (q : Rule) × (e ≡ event.Grant s i q) × MayMove ids r w x id a at s i q

  guarded : (i : ℕ) (q : Rule) → MayApply (configuration w) i q → guard (configuration w) i q ≡ true
  guarded i q = (guard-means (configuration w) i q l).1

  -- the clauses of a move
  abbrev checked : Result Event Denial
  checked = check (owns r) w x (acts.Move (rank_in ids id) (rule_of ids a) at)

  -- the clauses of a move that come after the clause about the owner
  abbrev owned : ℕ → ℕ → Option Rule → Result Event Denial
  owned s i rule =
      need (at == w.number) (Stale w.number)
      >> (need (is_none (chosen_at w.chosen i)) Chosen >> (ok_or rule Guard >>= (λ q. need (guard (configuration w) i q) Guard >> Ok (event.Grant s i q))))

  -- nobody owns the node and v is the denial `NotOwner`, or v is the result of the clauses after the clause about the owner
  abbrev IsByOwner : Result Event Denial → Type 0
  IsByOwner v =
      ((v ≡ Err NotOwner) × ((s i : ℕ) → ¬ IsOwner ids r x id s i)) ⊎ ((s : ℕ) × (i : ℕ) × IsOwner ids r x id s i × (owned s i (rule_of ids a) ≡ v))

  by_owner : (v : Result Event Denial) → checked ≡ v → IsByOwner v
  by_owner v h = grind (arith, nat_tests)

  granted_if : (s i : ℕ) (rule : Option Rule) (e : Event) → owned s i rule ≡ Ok e
      → (q : Rule) × (e ≡ event.Grant s i q) × (at ≡ w.number) × (chosen_at w.chosen i ≡ None) × (rule ≡ Some q) × (guard (configuration w) i q ≡ true)
  granted_if s i rule e h = grind (arith, nat_tests)

  to_move : (e : Event) → IsByOwner (Ok e) → IsMove e
  to_move e (inl none) = absurd (grind arith)
  to_move e (inr o) =
      let m = granted_if o.0 o.1 (rule_of ids a) e o.3 in
      let applies = (guard-means (configuration w) o.1 m.0 l).0 m.5 in
      (o.0, o.1, m.0, m.1, record { own = o.2; current = m.2; free = m.3; guard = ((asked_means ids a m.0).0 m.4, applies) })

  denied_if : (s i : ℕ) (d : Denial) → IsOwner ids r x id s i → owned s i (rule_of ids a) ≡ Err d → DeniesMove ids r w x id a at d
  denied_if s i d own h = grind (arith, eqb-true, eqb-false, guarded, asked_means)

  to_why : (d : Denial) → IsByOwner (Err d) → DeniesMove ids r w x id a at d
  to_why d (inl none) = grind arith
  to_why d (inr o) = denied_if o.0 o.1 d o.2 o.3

  from_guard : (rule : Option Rule) → rule_of ids a ≡ rule → (h : IsUnguarded ids r w x id a at) → owned h.s h.i rule ≡ Err Guard
  from_guard None e h = grind (arith, need-from, eq-eqb)
  from_guard (Some q) e h =
      let off = false_from_ne_true (guard (configuration w) h.i q) (λ g. h.unfit q ((asked_means ids a q).0 e, (guard-means (configuration w) h.i q l).0 g)) in
      grind (arith, need-from, eq-eqb)

  from_why : (d : Denial) → DeniesMove ids r w x id a at d → checked ≡ Err d
  from_why d h = grind (arith, nat_tests, by_owner checked refl, from_guard (rule_of ids a) refl)

  -- when a move is granted
  pub move_means : (e : Event) → (verdict ids r w x (command.Move id a at) ≡ verdicts.Grant e) ↔ IsMove e
  move_means e = (λ h. to_move e (by_owner (Ok e) (act-grant checked e h)), grind (arith, nat_tests, guarded, asked_means))

  -- why a move is denied
  pub move_denied : (d : Denial) → (verdict ids r w x (command.Move id a at) ≡ verdicts.Deny d) ↔ DeniesMove ids r w x id a at d
  move_denied d = (λ h. to_why d (by_owner (Err d) (act-deny checked d h)), λ h. ap (λ s. settled (granted s)) (from_why d h))
