-- If nodes get other names in the same order, guards and effects stay the same.
use Rattle.std.proofs.Common.{◌≡◌, ℕ, ◌<◌, Bool, true, false, not, ◌&&◌, ◌||◌, ltb, Option, None, Some, is_some, is_none, sym, refl, ap, ◌∙◌, arith}
use Rattle.std.specs.{Bool.beq, Option.option_map_or}
use Rattle.std.proofs.lemmas.Bool.{cases_order, cases_eq, eq-eqb, ne_eqb, lt-ltb, le-ltb, and_parts, both_ways, false_from_ne_true}
use Rattle.mml_ids.specs.Search.{some_below, greatest_below}
use Rattle.mml_rules.specs.{declared.rule.Rule.Rule, Configuration.Configuration, Configuration.IsLawful, Configuration.holds}
use Rattle.mml_rules.specs.Rules.{is_married, has_suitor, is_candidate, greatest_candidate, m_is_right, points_in_vain, guard, effect, enabled_kind, IsWithin}
use Rattle.mml_rules.specs.Naming.{renamed, renamed_regs, renamed_rule, IsRenamed}
use Rattle.mml_ids.proofs.SearchLemmas.{same_bool, some_below-find, some_below-at, greatest_below-some, greatest_below-none, greatest_is, greatest_above}
use Rattle.mml_rules.proofs.{RulesLemmas.pointee_in, EnabledKindLemmas.choose}

module _ (f : ℕ → ℕ) (c d : Configuration) (l : IsLawful c) (r : IsRenamed f c d) where
  pub apart : (i j : ℕ) → i < c.size → j < c.size → f i ≡ f j → i ≡ j
  apart i j a b e = grind (arith, cases_order)

  ltb_named : (i j : ℕ) → i < c.size → j < c.size → ltb (f i) (f j) ≡ ltb i j
  ltb_named i j a b = grind (arith, cases_order, le-ltb, lt-ltb)

  points_named : (k i : ℕ) → k < c.size → i < c.size → holds (d.p (f k)) (f i) ≡ holds (c.p k) i
  points_named k i a b = grind (arith, cases_eq, eq-eqb, ne_eqb, apart, pointee_in)

  null_named : (o : Option ℕ) → is_none (renamed f o) ≡ is_none o
  null_named o = grind arith

  some_named : (o : Option ℕ) → is_some (renamed f o) ≡ is_some o
  some_named o = grind arith

  free_named : (i : ℕ) → i < c.size → is_none (d.p (f i)) ≡ is_none (c.p i)
  free_named i a = ap is_none (r.p i a) ∙ null_named (c.p i)

  pointing_named : (i : ℕ) → i < c.size → is_some (d.p (f i)) ≡ is_some (c.p i)
  pointing_named i a = ap is_some (r.p i a) ∙ some_named (c.p i)

  -- let test t of nodes and test u of names agree on each node; if only names linked to x pass u, some name passes u
  -- exactly if some node passes t
  search_named : (t u : ℕ → Bool) (x : ℕ) → ((k : ℕ) → k < c.size → u (f k) ≡ t k) → ((y : ℕ) → u y ≡ true → d.linked x y ≡ true) → some_below d.size u ≡ some_below c.size t
  search_named t u x same near = same_bool _ _
      (λ h. let y = some_below-find d.size u h in
      let n = r.named x y.0 (near y.0 y.2) in
      some_below-at c.size n.0 t n.1 (sym (same n.0 n.1) ∙ ap u n.2 ∙ y.2))
      (λ h. let k = some_below-find c.size t h in some_below-at d.size (f k.0) u (r.within k.0 k.1) (same k.0 k.1 ∙ k.2))

  greatest_named : (t u : ℕ → Bool) (x : ℕ) → ((k : ℕ) → k < c.size → u (f k) ≡ t k) → ((y : ℕ) → u y ≡ true → d.linked x y ≡ true)
      → greatest_below d.size u ≡ renamed f (greatest_below c.size t)
  greatest_named t u x same near = go (greatest_below c.size t) refl
    where
      go : (o : Option ℕ) → greatest_below c.size t ≡ o → greatest_below d.size u ≡ renamed f o
      go None e = none (greatest_below d.size u) refl
        where
          none : (o : Option ℕ) → greatest_below d.size u ≡ o → greatest_below d.size u ≡ None
          none None g = g
          none (Some y) g =
              let h = greatest_below-some d.size y u g in
              let n = r.named x y (near y h.1) in
              absurd (both_ways (t n.0) (greatest_below-none c.size n.0 t e n.1) (sym (same n.0 n.1) ∙ ap u n.2 ∙ h.1))
      go (Some j) e =
          let h = greatest_below-some c.size j t e in
          greatest_is d.size (f j) u (r.within j h.0) (same j h.0 ∙ h.1) (λ y p q. false_from_ne_true (u y) (λ w.
          let n = r.named x y (near y w) in
          let up : j < n.0 = grind (arith, cases_order, r.rising n.0 j) in
          both_ways (t n.0) (greatest_above c.size j n.0 t e up n.1) (sym (same n.0 n.1) ∙ ap u n.2 ∙ w)))

  pub married_named : (i : ℕ) → i < c.size → is_married d (f i) ≡ is_married c i
  unfolding is_married
  married_named i a = search_named _ _ (f i)
      (λ k b. λ z. r.links i k a b z && (points_named i k a b z && points_named k i b a z))
      (λ y h. (and_parts (d.linked (f i) y) (holds (d.p (f i)) y && holds (d.p y) (f i)) h).0)

  suitor_named : (i : ℕ) → i < c.size → has_suitor d (f i) ≡ has_suitor c i
  unfolding has_suitor
  suitor_named i a = search_named _ _ (f i) (λ k b. λ z. r.links i k a b z && points_named k i b a z) (λ y h. (and_parts (d.linked (f i) y) (holds (d.p y) (f i)) h).0)

  candidate_named : (i : ℕ) → i < c.size → greatest_candidate d (f i) ≡ renamed f (greatest_candidate c i)
  unfolding greatest_candidate
  candidate_named i a = greatest_named (is_candidate c i) (is_candidate d (f i)) (f i)
      (λ k b. λ z. r.links i k a b z && (ltb_named i k a b z && (free_named k b z && not (r.m k b z))))
      (λ y h. (and_parts (d.linked (f i) y) _ h).0)

  some_candidate_named : (i : ℕ) → i < c.size → is_some (greatest_candidate d (f i)) ≡ is_some (greatest_candidate c i)
  some_candidate_named i a = ap is_some (candidate_named i a) ∙ some_named (greatest_candidate c i)

  right_named : (i : ℕ) → i < c.size → m_is_right d (f i) ≡ m_is_right c i
  right_named i a = λ z. beq (r.m i a z) (married_named i a z)

  vain_named : (i : ℕ) → i < c.size → points_in_vain d (f i) ≡ points_in_vain c i
  vain_named i a = ap (λ o. option_map_or (λ j. not (holds (d.p j) (f i)) && (d.m j || ltb j (f i))) o false) (r.p i a) ∙ go (c.p i) refl
    where
      go : (o : Option ℕ) → c.p i ≡ o →
          option_map_or (λ j. not (holds (d.p j) (f i)) && (d.m j || ltb j (f i))) (renamed f o) false
          ≡ option_map_or (λ j. not (holds (c.p j) i) && (c.m j || ltb j i)) o false
      go o e = grind (arith, pointee_in, points_named, ltb_named)

  pub kind_named : (i : ℕ) → i < c.size → enabled_kind d (f i) ≡ enabled_kind c i
  unfolding enabled_kind
  kind_named i a = λ z. choose (right_named i a z) (pointing_named i a z) (vain_named i a z) (suitor_named i a z) (some_candidate_named i a z)

  pub guard_named : (i : ℕ) (q : Rule) → i < c.size → IsWithin c.size q → guard d (f i) (renamed_rule f q) ≡ guard c i q
  guard_named i q a w = grind (arith, right_named, free_named, points_named, suitor_named, some_candidate_named, vain_named)

  pub effect_named : (i : ℕ) (q : Rule) → i < c.size → effect d (f i) (renamed_rule f q) ≡ renamed_regs f (effect c i q)
  effect_named i q a = grind (arith, married_named, candidate_named)
