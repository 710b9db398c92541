-- If nodes get other names in the same order, steps and pairs stay the same, and the same nodes are privileged.
use Rattle.std.proofs.Common.{◌≡◌, ◌↔◌, ◌⊎◌, ℕ, ◌<◌, Bool, true, false, eqb, Option, None, Some, is_some, sym, refl, ap, ◌∙◌, subst, inl, inr, arith}
use Rattle.std.proofs.lemmas.Bool.{eqb-true, eq-eqb, and_parts, both_ways, false_from_ne_true}
use Rattle.mml_ids.specs.Search.{some_below}
use Rattle.mml_ids.proofs.SearchLemmas.{some_below-find, some_below-none}
use Rattle.mml_rules.specs.{declared.rule.Rule.Rule, Configuration.Configuration, Configuration.IsLawful, Matching.IsPair, Matching.IsStable, Naming.renamed, Naming.IsRenamed}
use Rattle.mml_rules.specs.Rules.{has_suitor, greatest_candidate, enabled_kind, is_privileged, moved, step}
use Rattle.mml_rules.specs.UnderNames.{renamed_move, AreRenamedMoves, IsNoName, IsEmptyElsewhere}
use Rattle.mml_rules.proofs.RulesLemmas.{pointee_in, married-null, greatest-is}
use Rattle.mml_rules.proofs.{EnabledKindLemmas.choose, NamingLemmas.apart, NamingLemmas.kind_named, NamingLemmas.effect_named}

module _ (f : ℕ → ℕ) (c d : Configuration) (l : IsLawful c) (r : IsRenamed f c d) where
  -- ---- a step

  module _ (chosen named : ℕ → Option Rule) (moves : AreRenamedMoves f c.size chosen named) where
    pointer_after : (i : ℕ) → i < c.size → (moved d (f i) (named (f i))).p ≡ renamed f (moved c i (chosen i)).p
    pointer_after i a = grind (arith, effect_named)

    m_after : (i : ℕ) → i < c.size → (moved d (f i) (named (f i))).m ≡ (moved c i (chosen i)).m
    m_after i a = ap (λ o. (moved d (f i) o).m) (moves i a) ∙ go (chosen i)
      where
        go : (o : Option Rule) → (moved d (f i) (renamed_move f o)).m ≡ (moved c i o).m
        go None = r.m i a
        go (Some q) = ap (λ x. x.m) (effect_named f c d l r i q a)

    pub step_named : IsRenamed f (step c chosen) (step d named)
    step_named = record { rising = r.rising; within = r.within; links = r.links; named = r.named; p = pointer_after; m = m_after }

  -- ---- pairs

  pointer_from : (i y : ℕ) → i < c.size → d.p (f i) ≡ Some y → (j : ℕ) × (j < c.size) × (f j ≡ y) × (c.p i ≡ Some j)
  pointer_from i y a e = grind (arith, pointee_in)

  pointer_named : (i j : ℕ) → i < c.size → j < c.size → (d.p (f i) ≡ Some (f j)) ↔ (c.p i ≡ Some j)
  pointer_named i j a b = grind (arith, pointer_from, apart)

  pub pair_named : (i j : ℕ) → i < c.size → j < c.size → IsPair d (f i) (f j) ↔ IsPair c i j
  pair_named i j a b = grind (arith, pointer_named)

  pub pair_has_names : (i y : ℕ) → i < c.size → IsPair d (f i) y → (j : ℕ) × (j < c.size) × (f j ≡ y) × IsPair c i j
  pair_has_names i y a h = grind (arith, pointer_from, pointer_named)

  -- ---- whether a node is privileged

  privileged_named : (i : ℕ) → i < c.size → is_privileged d (f i) ≡ is_privileged c i
  privileged_named i a = ap is_some (kind_named f c d l r i a)

  is_name : (y : ℕ) → ((i : ℕ) × (i < c.size) × (f i ≡ y)) ⊎ IsNoName f c.size y
  is_name y = go (some_below c.size (λ i. eqb (f i) y)) refl
    where
      go : (b : Bool) → some_below c.size (λ i. eqb (f i) y) ≡ b → ((i : ℕ) × (i < c.size) × (f i ≡ y)) ⊎ IsNoName f c.size y
      go true e = let k = some_below-find c.size (λ i. eqb (f i) y) e in inl (k.0, k.1, eqb-true (f k.0) y k.2)
      go false e = inr (λ i a same. both_ways (eqb (f i) y) (some_below-none c.size i (λ i. eqb (f i) y) e a) (eq-eqb (f i) y same))

  module _ (empty : IsEmptyElsewhere f c d) where
    no_suitor_elsewhere : (x : ℕ) → IsNoName f c.size x → has_suitor d x ≡ false
    unfolding has_suitor
    no_suitor_elsewhere x none = grind (arith, false_from_ne_true, some_below-find, both_ways, and_parts)

    no_candidate_elsewhere : (x : ℕ) → IsNoName f c.size x → is_some (greatest_candidate d x) ≡ false
    no_candidate_elsewhere x none = grind (
      arith,
      λ (j : ℕ) (e : greatest_candidate d x ≡ Some j). both_ways (d.linked x j) (empty.links x j none) (and_parts (d.linked x j) _ (greatest-is d x j e)).0,
    )

    idle_elsewhere : (x : ℕ) → IsNoName f c.size x → is_privileged d x ≡ false
    unfolding enabled_kind
    idle_elsewhere x none = grind (arith, choose, married-null, no_suitor_elsewhere, no_candidate_elsewhere)

    pub stable_named : IsStable d ↔ IsStable c
    stable_named = (
      (λ s i a. sym (privileged_named i a) ∙ s (f i) (r.within i a)),
      (λ s y _. elim (is_name y) [ inl k ↦ subst (λ x. is_privileged d x ≡ false) k.2 (privileged_named k.0 k.1 ∙ s k.0 k.1) | inr none ↦ idle_elsewhere y none ]),
    )
