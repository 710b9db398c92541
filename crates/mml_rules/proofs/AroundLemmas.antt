-- The guards and the effects at a node depend only on the node and its neighbours.
use Rattle.std.proofs.Common.{◌≡◌, ℕ, ◌<◌, Bool, true, ◌&&◌, is_some, is_none, nat_lt, ap, ◌∙◌, arith}
use Rattle.std.{specs.Bool.beq, proofs.lemmas.Bool.and_parts}
use Rattle.mml_rules.specs.{declared.rule.Rule.Rule, Configuration.Configuration, Configuration.IsLawful, Around.AgreeAround}
use Rattle.mml_rules.specs.Rules.{is_married, has_suitor, greatest_candidate, m_is_right, points_in_vain, guard, effect, enabled_kind}
use Rattle.mml_rules.proofs.EnabledKindLemmas.{choose}
use Rattle.mml_ids.proofs.SearchLemmas.{some_below_alike, greatest_below_alike}

and_same : (b x y : Bool) → (b ≡ true → x ≡ y) → (b && x) ≡ (b && y)
and_same b x y h = grind arith

module _ (c d : Configuration) (i : ℕ) (l : IsLawful c) (k : IsLawful d) (a : AgreeAround c d i) where
  in_c : (j : ℕ) (b : Bool) → (c.linked i j && b) ≡ true → j < c.size
  in_c j b h = (l.in_range i j (and_parts (c.linked i j) b h).0).1

  in_d : (j : ℕ) (b : Bool) → (d.linked i j && b) ≡ true → j < d.size
  in_d j b h = (k.in_range i j (and_parts (d.linked i j) b h).0).1

  same_married : is_married c i ≡ is_married d i
  unfolding is_married
  same_married = grind (arith, some_below_alike, and_same, in_c, in_d)

  same_suitor : has_suitor c i ≡ has_suitor d i
  unfolding has_suitor
  same_suitor = grind (arith, some_below_alike, and_same, in_c, in_d)

  same_greatest : greatest_candidate c i ≡ greatest_candidate d i
  unfolding greatest_candidate
  same_greatest = grind (arith, greatest_below_alike, and_same, nat_lt, is_none, in_c, in_d)

  same_right : m_is_right c i ≡ m_is_right d i
  same_right = ap (λ b. beq b (is_married c i)) a.m_here ∙ ap (beq (d.m i)) same_married

  same_vain : points_in_vain c i ≡ points_in_vain d i
  same_vain = grind (arith, nat_lt)

  pub same_kind : enabled_kind c i ≡ enabled_kind d i
  unfolding enabled_kind
  same_kind = λ z. choose (same_right z) (is_some (a.p_here z)) (same_vain z) (same_suitor z) (is_some (same_greatest z))

  pub same_effect : (r : Rule) → effect c i r ≡ effect d i r
  same_effect r = grind (arith, same_married, same_greatest)

  pub same_guard : (r : Rule) → guard c i r ≡ guard d i r
  same_guard r = grind (arith, same_right, is_none, and_same, same_suitor, same_greatest, same_vain)
