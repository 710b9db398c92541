-- In a step the potential of each node falls by the number of moves that are charged to it. These are the node's own
-- move, if it isn't a marriage with a lower node, and each marriage of a higher node with it.
use Rattle.std.proofs.Common.{◌≡◌, ℕ, ◌+◌, ◌<◌, ◌≤◌, Bool, true, false, cond, not, inl, inr, Option, None, Some, refl, ap, ◌∙◌, arith, nat_lt}
use Rattle.std.specs.Option.{option_map_or}
use Rattle.std.proofs.lemmas.Bool.{cases_Bool, and_from, both_ways, false≢true, lt-ltb, cases_order, Decides.nat_tests}
use Rattle.mml_ids.specs.Search.{some_below, count_below}
use Rattle.mml_ids.proofs.SearchLemmas.{some_below-find, some_below-none}
use Rattle.mml_rules.specs.{declared.rule.Rule.Rule, Configuration.Configuration, Configuration.IsLawful, Configuration.holds, Rules.is_married, Rules.moved, Rules.step, Rules.AllHold}
use Rattle.mml_rules.proofs.{ConfigurationLemmas.holds-true, ConfigurationLemmas.holds-from, RulesLemmas.married-null, RulesLemmas.married-at, RulesLemmas.married-from, StepLemmas.step-lawful}
use Rattle.mml_convergence.proofs.{StepLemmas.step_keeps, StepLemmas.step-married, StepLemmas.step-free, StepLemmas.moved-m, MarriedCountLemmas.apart}
use Rattle.mml_convergence.specs.Potential.{sum_below, points_down, own_part, is_above, link_part, potential}
use Rattle.mml_convergence.proofs.PartsLemmas.{IsMoved, IsStep, own_kept, own_updated, own_abandoned, link_kept, link_fell, link_answered}
use Rattle.mml_convergence.proofs.SumsLemmas.{sum_kept, sum_fell, count_none, count_one_at_most}
use Rattle.mml_convergence.proofs.MovesLemmas.{pays, marries_lower, marries_lower-means, updates, Marries, marries, seduces, seduced, abandons, abandoned, makes, drops}

cond_kept : (b : Bool) (x y : ℕ) → (b ≡ true → x ≤ y) → cond b x 0 ≤ cond b y 0
cond_kept b x y le = grind arith

cond_fell : (b : Bool) (x y : ℕ) → b ≡ true → x + 1 ≤ y → cond b x 0 + 1 ≤ cond b y 0
cond_fell b x y e le = grind arith

module _ (c : Configuration) (chosen : ℕ → Option Rule) (l : IsLawful c) (h : AllHold c chosen) where
  -- the configuration after the step
  abbrev next : Configuration
  next = step c chosen

  lawful : IsLawful next
  lawful = step-lawful c chosen l h

  m_moved : (i : ℕ) → IsMoved (is_married c i) (c.m i) (next.m i)
  m_moved i = moved-m c i (chosen i) (h i)

  -- if j points at a higher node with m false, it still does so after the step
  pub suitor_kept : (i j : ℕ) → c.p j ≡ Some i → c.m i ≡ false → j < i → holds (next.p j) i ≡ true
  suitor_kept i j e off lt = grind (arith, nat_tests, drops)

  -- a node that marries a lower node is married after the step
  lower_pair : (i j : ℕ) → c.m i ≡ false → c.p j ≡ Some i → next.p i ≡ Some j → j < i → is_married next i ≡ true
  lower_pair i j off e to lt = married-from next i j lawful to (holds-true (next.p j) i (suitor_kept i j e off lt))

  -- a node that isn't married points at a lower node after the step only if it did so before
  down_kept : (i : ℕ) → is_married next i ≡ false → points_down next i ≡ true → points_down c i ≡ true
  down_kept i unmarried down = go (next.p i) refl down
    where
      go : (o : Option ℕ) → next.p i ≡ o → option_map_or (λ j. nat_lt j i) o false ≡ true → points_down c i ≡ true
      go None e d = absurd (false≢true d)
      go (Some j) e d = grind (arith, nat_tests, makes c i j (chosen i) (h i), lower_pair i j, married-null c i, holds-true (c.p i) j)

  own_part_kept : (i : ℕ) → own_part next i ≤ own_part c i
  own_part_kept i = grind (arith, nat_tests, own_kept, step-married, m_moved, down_kept)

  -- what the step changes at the link from i to a higher node j
  link_step : (i j : ℕ) → i < j
      → IsStep (holds (c.p i) j) (holds (c.p j) i) (c.m j) (is_married c j) (holds (next.p i) j) (holds (next.p j) i) (next.m j) (is_married next j)
  link_step i j lt = grind (arith, nat_tests, step-married, m_moved, step-free, step_keeps, holds-from, makes, holds-true, married-at, drops, married-null)

  link_part_kept : (i j : ℕ) → cond (is_above c i j) (link_part next i j) 0 ≤ cond (is_above c i j) (link_part c i j) 0
  link_part_kept i j = cond_kept (is_above c i j) _ _ (λ e. link_kept _ _ _ _ _ _ _ _ (link_step i j (grind (arith, nat_tests))))

  -- the sum of the parts of the links from i to higher nodes, before the step (and below, after it)
  abbrev links_before : ℕ → ℕ
  links_before i = sum_below c.size (λ j. cond (is_above c i j) (link_part c i j) 0)

  abbrev links_after : ℕ → ℕ
  links_after i = sum_below c.size (λ j. cond (is_above c i j) (link_part next i j) 0)

  links_kept : (i : ℕ) → links_after i ≤ links_before i
  links_kept i = grind (arith, nat_tests, sum_kept, link_part_kept)

  links_fell : (i j : ℕ) → c.linked i j ≡ true → i < j → link_part next i j + 1 ≤ link_part c i j → links_after i + 1 ≤ links_before i
  links_fell i j linked lt less =
      sum_fell c.size j _ _ (λ j lt. link_part_kept i j) (l.in_range i j linked).1 (cond_fell (is_above c i j) _ _ (and_from _ _ linked (lt-ltb i j lt)) less)

  pointer_fell : (i j : ℕ) → c.linked i j ≡ true → i < j → holds (next.p i) j ≡ not (holds (c.p i) j) → links_after i + 1 ≤ links_before i
  pointer_fell i j linked lt turned = links_fell i j linked lt (link_fell _ _ _ _ _ _ _ _ (link_step i j lt) turned)

  -- ---- a node's own move is charged to it, if it isn't a marriage with a lower node

  own_part_updated : (i : ℕ) → chosen i ≡ Some Rule.Update → own_part next i + 1 ≤ own_part c i
  own_part_updated i e = own_updated (is_married c i) (c.m i) (points_down c i) (is_married next i) (next.m i) (points_down next i) (step-married c chosen l h i)
      (updates c i (h i Rule.Update e)) (ap (λ o. (moved c i o).m) e) (ap (λ o. option_map_or (λ j. nat_lt j i) (moved c i o).p false) e)

  -- the sum of the own part of i and the parts of its links falls by at least n
  abbrev Pays : ℕ → ℕ → Type 0
  Pays i n = own_part next i + links_after i + n ≤ own_part c i + links_before i

  marriage_paid : (i j : ℕ) → chosen i ≡ Some (Rule.Marriage j) → (b : Bool) → nat_lt j i ≡ b → Pays i (cond (not b) 1 0)
  marriage_paid i j e true lower = omega (arith, own_part_kept i, links_kept i)
  marriage_paid i j e false up =
      let g = marries c i j (h i (Rule.Marriage j) e) in
      grind (arith, nat_tests, g, ap (λ o. (moved c i o).p) e, cases_order, apart, own_part_kept i, pointer_fell, holds-from, both_ways, lt-ltb)

  seduction_paid : (i : ℕ) → chosen i ≡ Some Rule.Seduction → Pays i 1
  seduction_paid i e =
      let some = seduced c i (h i Rule.Seduction e) in
      grind (arith, nat_tests, seduces c i some.0 (h i Rule.Seduction e) some.1, ap (λ o. (moved c i o).p) e ∙ some.1, own_part_kept i, pointer_fell, holds-from)

  abandonment_paid : (i : ℕ) → chosen i ≡ Some Rule.Abandonment → Pays i 1
  abandonment_paid i e =
      let some = abandoned c i (h i Rule.Abandonment e) in
      let x = abandons c i some.0 (h i Rule.Abandonment e) some.1 in
      let moves = ap (λ o. (moved c i o).p) e in
      let linked = l.to_linked i some.0 some.1 in
      grind (arith, nat_tests, x, moves, linked, married-at, cases_order, apart, own_part_kept i, links_kept i, pointer_fell, holds-from, own_abandoned, lt-ltb)

  -- whichever rule a move of i applies, the parts of i fall by 1 if the move is charged to i
  move_paid : (i : ℕ) (o : Option Rule) → chosen i ≡ o → Pays i (cond (pays o i) 1 0)
  move_paid i o e = grind (arith, nat_tests, own_part_kept i, links_kept i, own_part_updated, marriage_paid, seduction_paid, abandonment_paid)

  -- ---- a marriage of a higher node with i is charged to i

  -- k marries the lower node i, and wasn't married before
  record MarriesLower (k i : ℕ) : Type 0 where
    higher : i < k
    chooses : chosen k ≡ Some (Rule.Marriage i)
    guarded : Marries c k i
    unmarried : is_married c k ≡ false

  lower_marriage : (k i : ℕ) → marries_lower (chosen k) k i ≡ true → MarriesLower k i
  lower_marriage k i e = let w = marries_lower-means (chosen k) k i e in grind (arith, nat_tests, marries c k i (h k (Rule.Marriage i) w.0), married-null)

  -- if k marries the lower node i, the part of their link falls from 1 to 0
  answer_lowers : (k i : ℕ) → MarriesLower k i → links_after i + 1 ≤ links_before i
  answer_lowers k i w = grind (arith, nat_tests, links_fell, link_answered, holds-from, suitor_kept)

  -- if k marries the lower node i, the parts of i fall by 1 more than for its own move, which can only be an update
  both_paid : (k i : ℕ) → MarriesLower k i → (o : Option Rule) → chosen i ≡ o → Pays i (cond (pays o i) 1 0 + 1)
  both_paid k i w None e = omega (arith, own_part_kept i, answer_lowers k i w)
  both_paid k i w (Some Rule.Update) e = omega (arith, own_part_updated i e, answer_lowers k i w)
  both_paid k i w (Some (Rule.Marriage j)) e = let g = marries c i j (h i (Rule.Marriage j) e) in let null = g.null in let suitor = w.guarded.suitor in cc
  both_paid k i w (Some Rule.Seduction) e = let some = seduced c i (h i Rule.Seduction e) in grind (arith, nat_tests, seduces c i some.0 (h i Rule.Seduction e) some.1)
  both_paid k i w (Some Rule.Abandonment) e =
      let g = abandons c i k (h i Rule.Abandonment e) w.guarded.suitor in
      grind (arith, nat_tests, g, w.guarded.right, w.unmarried, w.higher)

  -- the number of higher nodes that marry i, which is at most one
  abbrev marriages_with : ℕ → ℕ
  marriages_with i = count_below c.size (λ k. marries_lower (chosen k) k i)

  one_marriage : (k i : ℕ) → MarriesLower k i → marriages_with i ≤ 1
  one_marriage k i w =
      count_one_at_most c.size k (λ k. marries_lower (chosen k) k i)
      (λ j e. let there = (lower_marriage j i e).guarded.suitor in let here = w.guarded.suitor in cc)

  all_paid : (i : ℕ) → Pays i (cond (pays (chosen i) i) 1 0 + marriages_with i)
  all_paid i = elim (cases_Bool (some_below c.size (λ k. marries_lower (chosen k) k i))) [
    | inl e ↦
        let found = some_below-find c.size (λ k. marries_lower (chosen k) k i) e in
        grind (arith, nat_tests, lower_marriage found.0 i found.2, one_marriage, both_paid)
    | inr e ↦ grind (arith, nat_tests, count_none c.size (λ k. marries_lower (chosen k) k i) (λ k lt. some_below-none c.size k _ e lt), move_paid)
  ]

  -- the potential of i falls by at least the number of moves that are charged to it
  pub potential_fell : (i : ℕ) → potential next i + (cond (pays (chosen i) i) 1 0 + count_below c.size (λ k. marries_lower (chosen k) k i)) ≤ potential c i
  unfolding potential
  potential_fell i = let paid = all_paid i in omega (arith, paid)
