-- Over grants, releases and closes, the register m of a node changes at most twice.
use Rattle.std.proofs.Common.{◌≡◌, ℕ, ◌≤◌, ◌+◌, true, List, [], ◌∷◌, sym, subst, arith}
use Rattle.std.{specs.List.list_all, proofs.lemmas.Bool.false≢true, proofs.lemmas.Bool.Decides.nat_tests}
use Rattle.mml_rules.specs.{Configuration.Configuration, Rules.is_married}
use Rattle.mml_lab.specs.Rosters.{RosterValue}
use Rattle.mml_board.specs.{declared.event.Event.Event, World.World, World.configuration, World.chosen_at, World.IsWorld, Events.after, Runs.is_legal_list}
use Rattle.mml_convergence.specs.Runs.{is_of_step, changes_of_m}
use Rattle.mml_convergence.proofs.StepLemmas.{weight, change, step-weight, weight_at_most}
use Rattle.mml_board.proofs.{WorldLemmas.closed-step, WorldLemmas.after-world, ClausesLemmas.legal_possible}
use Rattle.mml_board.specs.declared.event.Event.TheVariants as event

-- an upper bound on how often m may still change at i
abbrev weight_at : World → ℕ → ℕ
weight_at w i = weight ((configuration w).m i) (is_married (configuration w) i)

-- each change of m lowers this upper bound by at least 1
step_pays : (w : World) (e : Event) (i : ℕ) → IsWorld w → is_of_step e ≡ true
    → change ((configuration w).m i) ((configuration (after w e)).m i) + weight_at (after w e) i ≤ weight_at w i
step_pays w (event.Grant s node rule) i k of_step = grind arith
step_pays w (event.Release node) i k of_step = grind arith
step_pays w event.Close i k of_step =
    let pays = step-weight (configuration w) (chosen_at w.chosen) k.network.lawful k.hold i in
    subst (λ (c : Configuration). change ((configuration w).m i) (c.m i) + weight (c.m i) (is_married c i) ≤ weight_at w i) (sym (closed-step w k.choices)) pays
step_pays w _ i k of_step = absurd (false≢true of_step)

changes_paid : (r : RosterValue) (i : ℕ) (w : World) (es : List Event) → IsWorld w → is_legal_list r w es ≡ true → list_all is_of_step es ≡ true
    → changes_of_m i w es ≤ weight_at w i
changes_paid r i w [] k legal steps = omega arith
changes_paid r i w (e ∷ es) k legal steps = grind (arith, step_pays w e i k, changes_paid r i (after w e) es, after-world w e k, legal_possible r w e)

-- over grants, releases and closes, m changes at most twice at a node
pub twice_at_most : (r : RosterValue) (w : World) (es : List Event) (i : ℕ) → IsWorld w → is_legal_list r w es ≡ true → list_all is_of_step es ≡ true → changes_of_m i w es ≤ 2
twice_at_most r w es i k legal steps = grind (arith, nat_tests, changes_paid, weight_at_most)
