-- In a step the courting potential falls by at least the number of nodes that move.
use Rattle.std.proofs.Common.{ℕ, zero, suc, ◌+◌, ◌*◌, ◌≤◌, cond, not, inl, inr, Option, arith}
use Rattle.mml_ids.specs.Search.{count_below}
use Rattle.mml_rules.specs.{declared.rule.Rule.Rule, Configuration.Configuration, Configuration.IsLawful, Rules.is_married, Rules.step, Rules.AllHold}
use Rattle.mml_convergence.specs.{Potential.sum_below, Moves.moves, Courtships.node_part, Courtships.most_courtships, Courtships.courting_potential}
use Rattle.mml_convergence.proofs.{StepLemmas.step-married, SumsLemmas.sum_charged, SumsLemmas.sum_of_tests, MarriedCountLemmas.married_kept, MarriedCountLemmas.grows}
use Rattle.mml_convergence.proofs.NumbersLemmas.{sum_lent, count_both, count_lent, courtships_kept, marriages_pay}
use Rattle.mml_convergence.proofs.CourtshipLemmas.{pointer_most, calm_pays, lent_pays}

-- the number of nodes that aren't married
abbrev pub free_count : Configuration → ℕ
free_count c = count_below c.size (λ i. not (is_married c i))

pub courting_fell : (c : Configuration) (chosen : ℕ → Option Rule) → IsLawful c → AllHold c chosen
    → courting_potential (step c chosen) + count_below c.size (moves chosen) ≤ courting_potential c
unfolding courting_potential
courting_fell c chosen l h =
    let counted = sum_of_tests c.size (moves chosen) in
    let before = count_both c.size (is_married c) in
    let after = count_both c.size (is_married (step c chosen)) in
    elim (grows c chosen l h) [
      | inl two ↦
          let paid = sum_lent c.size (node_part (step c chosen)) (λ i. cond (moves chosen i) 1 0) (node_part c)
          (λ i. cond (is_married (step c chosen) i) (cond (is_married c i) 0 1) 2) (lent_pays c chosen l h) in
          let lent = count_lent c.size (is_married c) (is_married (step c chosen)) (step-married c chosen l h) in
          omega (arith, counted, before, after, paid, lent, marriages_pay (free_count (step c chosen)) (free_count c) (omega (arith, two, before, after)))
      | inr calm ↦
          let paid = sum_charged c.size (λ i. cond (moves chosen i) 1 0) (node_part (step c chosen)) (node_part c) (calm_pays c chosen l h calm) in
          let kept = married_kept c chosen l h in
          omega (arith, counted, paid, courtships_kept (free_count (step c chosen)) (free_count c) (omega (arith, kept, before, after)))
    ]

parts_most : (n : ℕ) (c : Configuration) → sum_below n (node_part c) ≤ 3 * n
parts_most zero c = omega arith
parts_most (suc n) c = grind (arith, parts_most n c, pointer_most c n)

pub courting_most : (c : Configuration) → courting_potential c ≤ 3 * c.size + 2 * most_courtships c.size
unfolding courting_potential
courting_most c = omega (arith, parts_most c.size c, courtships_kept (free_count c) c.size (omega (arith, count_both c.size (is_married c))))
