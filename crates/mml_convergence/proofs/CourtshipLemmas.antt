-- How the part of each node, which `node_part` defines, changes in a step. If no node is newly married, the part of
-- each node that moves falls by at least 1. In any other step, 1 is first added for each newly married node, and 2 for
-- each node that isn't married. Compared with this sum, the part of each node that moves falls by at least 1.
use Rattle.std.proofs.Common.{◌≡◌, ℕ, ◌+◌, ◌<◌, ◌≤◌, ◌⊎◌, Bool, true, false, not, cond, inl, inr, Option, None, Some, is_some, refl, ap, ◌∙◌, arith}
use Rattle.std.proofs.lemmas.Bool.{both_ways, cases_Bool, false_from_ne_true, Decides.nat_tests}
use Rattle.mml_rules.specs.{declared.rule.Rule.Rule, Configuration.Configuration, Configuration.IsLawful, Configuration.holds, Rules.is_married, Rules.moved, Rules.step, Rules.AllHold}
use Rattle.mml_rules.proofs.{ConfigurationLemmas.holds-true, RulesLemmas.married-null, RulesLemmas.married-at, RulesLemmas.married-from, StepLemmas.step-lawful}
use Rattle.mml_convergence.proofs.{StepLemmas.step-married, StepLemmas.moved-m, MarriedCountLemmas.Calm}
use Rattle.mml_convergence.proofs.MovesLemmas.{updates, marries, seduces, seduced, abandons, abandoned, drops}
use Rattle.mml_convergence.specs.Courtships.{pointer_part, node_part}

-- ---- the parts

pub pointer_most : (d : Configuration) (i : ℕ) → pointer_part d i ≤ 2
pointer_most d i = grind arith

null_part : (d : Configuration) (i : ℕ) → d.p i ≡ None → pointer_part d i ≡ 1
null_part d i e = grind (arith, nat_tests)

-- if i points at a higher node with m false that isn't married, the part of i's pointer is 0
court : (d : Configuration) (i j : ℕ) → d.p i ≡ Some j → i < j → d.m j ≡ false → is_married d j ≡ false → pointer_part d i ≡ 0
court d i j e lt off free = grind (arith, nat_tests)

module _ (c : Configuration) (chosen : ℕ → Option Rule) (l : IsLawful c) (h : AllHold c chosen) where
  -- the configuration after the step
  abbrev next : Configuration
  next = step c chosen

  p_after : (i : ℕ) (o : Option Rule) → chosen i ≡ o → next.p i ≡ (moved c i o).p
  p_after i o e = ap (λ o. (moved c i o).p) e

  -- a move makes m right; before the move, m is wrong, or the node isn't married and its pointer is or becomes null
  move : (i : ℕ) (r : Rule) → chosen i ≡ Some r → (next.m i ≡ is_married c i)
      × ((c.m i ≡ not (is_married c i)) ⊎ ((is_married c i ≡ false) × (c.m i ≡ false) × ((c.p i ≡ None) ⊎ (next.p i ≡ None))))
  move i r e =
      let m = ap (λ o. (moved c i o).m) e in
      grind (arith, nat_tests, h i r e, m, p_after i (Some r) e, updates, marries, seduced, seduces, abandoned, abandons, married-null, married-at)

  -- ---- any step, if 1 is first added for a newly married node, and 2 for a node that isn't married

  -- the sum in numbers, for a node that doesn't move
  still : (x m x' m' : Bool) (p p' : ℕ) → m' ≡ m → (x ≡ true → x' ≡ true) → p' ≤ 2
      → cond x' (cond m' 0 1) (cond m' 1 0 + p') + 0 ≤ cond x (cond m 0 1) (cond m 1 0 + p) + cond x' (cond x 0 1) 2
  still x m x' m' p p' same stays most = grind arith

  pub lent_pays : (i : ℕ) → node_part next i + cond (is_some (chosen i)) 1 0 ≤ node_part c i + cond (is_married next i) (cond (is_married c i) 0 1) 2
  lent_pays i = go (chosen i) refl
    where
      go : (o : Option Rule) → chosen i ≡ o → node_part next i + cond (is_some o) 1 0 ≤ node_part c i + cond (is_married next i) (cond (is_married c i) 0 1) 2
      go None e =
          still (is_married c i) (c.m i) (is_married next i) (next.m i) (pointer_part c i) (pointer_part next i) (ap (λ o. (moved c i o).m) e)
          (step-married c chosen l h i) (pointer_most next i)
      go (Some r) e = grind (arith, nat_tests, move i r e, step-married c chosen l h i, pointer_most next i, null_part c i, null_part next i, married-null)

  -- ---- a step in which no node is newly married

  module _ (calm : Calm c chosen) where
    stays_free : (j : ℕ) → is_married c j ≡ false → is_married next j ≡ false
    stays_free j a = false_from_ne_true (is_married next j) (λ m. both_ways (is_married c j) a (calm j m))

    -- if after the step i points at a higher node that had m false and wasn't married, the part of i's pointer is 0
    courts_then : (i j : ℕ) → next.p i ≡ Some j → i < j → is_married c j ≡ false → c.m j ≡ false → pointer_part next i ≡ 0
    courts_then i j e lt a off = grind (arith, nat_tests, moved-m c j (chosen j) (h j), stays_free j a, court next i j e lt)

    -- if the pointer of a node stays the same, its part doesn't rise
    pointer_kept : (i : ℕ) → next.p i ≡ c.p i → pointer_part next i ≤ pointer_part c i
    pointer_kept i same = grind (arith, nat_tests, null_part, courts_then, pointer_most)

    -- if an unmarried node moves, m was true and the part of its pointer doesn't rise, or the part of its pointer falls
    calm_move : (i : ℕ) (r : Rule) → chosen i ≡ Some r → is_married c i ≡ false
        → (c.m i ≡ true × pointer_part next i ≤ pointer_part c i) ⊎ (pointer_part next i + 1 ≤ pointer_part c i)
    calm_move i Rule.Update e a = inl (updates c i (h i Rule.Update e) ∙ ap not a, pointer_kept i (p_after i (Some Rule.Update) e))
    calm_move i (Rule.Marriage j) e a =
        let g = marries c i j (h i (Rule.Marriage j) e) in
        let null = null_part c i g.null in
        let to : next.p i ≡ Some j = p_after i (Some (Rule.Marriage j)) e in
        let gone : holds (next.p j) i ≡ false = false_from_ne_true (holds (next.p j) i) (λ back.
        both_ways (is_married next i) (stays_free i a) (married-from next i j (step-lawful c chosen l h) to (holds-true (next.p j) i back))) in
        let left = drops c j i (chosen j) (h j) g.suitor gone in
        let alone : is_married c j ≡ false = married-at c j i l g.suitor ∙ ap (λ o. holds o j) g.null in
        let lt : i < j = elim left.0.vain [ inl m ↦ absurd (both_ways (c.m i) (g.right ∙ a) m) | inr lt ↦ lt ] in
        let court = courts_then i j to lt alone (left.0.right ∙ alone) in
        inr (omega (arith, null, court))
    calm_move i Rule.Seduction e a =
        let some = seduced c i (h i Rule.Seduction e) in
        let s = seduces c i some.0 (h i Rule.Seduction e) some.1 in
        let court = courts_then i some.0 (p_after i (Some Rule.Seduction) e ∙ some.1) s.higher (married-null c some.0 s.free) s.m in
        inr (omega (arith, null_part c i s.null, court))
    calm_move i Rule.Abandonment e a =
        let some = abandoned c i (h i Rule.Abandonment e) in
        inr (grind (arith, nat_tests, abandons c i some.0 (h i Rule.Abandonment e) some.1, null_part next i (p_after i (Some Rule.Abandonment) e)))

    calm_free : (i : ℕ) (o : Option Rule) → chosen i ≡ o → is_married c i ≡ false → node_part next i + cond (is_some o) 1 0 ≤ node_part c i
    calm_free i None e a = grind (arith, a, stays_free i a, ap (λ o. (moved c i o).m) e, pointer_kept i (p_after i None e))
    calm_free i (Some r) e a = grind (arith, a, stays_free i a, move i r e, calm_move i r e a)

    -- the part of each node that moves falls by at least 1, and no other part rises
    pub calm_pays : (i : ℕ) → node_part next i + cond (is_some (chosen i)) 1 0 ≤ node_part c i
    calm_pays i = grind (arith, nat_tests, cases_Bool, calm_free i (chosen i) refl, step-married c chosen l h i, lent_pays i)
