-- At which end of a link the search for its witness begins.
use Rattle.std.proofs.{Common.◌≡◌, Common.◌<◌, Common.ℕ, Common.false, Common.Option, Common.Some, Common.inl, Common.refl, Common.ap, Common.subst, lemmas.Bool.both_ways}
use Rattle.mml_rules.specs.{Configuration.Configuration, Configuration.IsLawful, Rules.enabled_kind, Rules.is_married}
use Rattle.mml_stable.{specs.Walk.LeadsTo, specs.Walk.privileged, specs.Walk.null, specs.Walk.onward, specs.Walk.walk, specs.Walk.unless_seduction, proofs.WalkLemmas.top-ends}

next_same : (o : Option ℕ) (i j : ℕ) → o ≡ Some i → o ≡ Some j → i ≡ j
next_same o i j e f = cc

module _ (c : Configuration) where
  -- the way along the pointers leads to only one node
  leads_once : {i x : ℕ} → LeadsTo c i x → (y : ℕ) → LeadsTo c i y → x ≡ y
  leads_once (privileged p) y (privileged q) = refl
  leads_once (privileged p) y (null q e) = absurd (both_ways _ q p)
  leads_once (privileged p) y (onward q e m) = absurd (both_ways _ q p)
  leads_once (null p e) y (privileged q) = absurd (both_ways _ p q)
  leads_once (null p e) y (null q f) = refl
  leads_once (null p e) y (onward q f m) = cc
  leads_once (onward p e l) y (privileged q) = absurd (both_ways _ p q)
  leads_once (onward p e l) y (null q f) = cc
  leads_once (onward p e l) y (onward q f m) = leads_once l y (subst (λ k. LeadsTo c k y) (next_same _ _ _ f e) m)

  module _ (lawful : IsLawful c) (i x : ℕ) (there : i < c.size) (free : is_married c i ≡ false) (leads : LeadsTo c i x) where
    -- the walk from an unmarried node looks at the node to which the way along the pointers leads
    pub walk_there : walk c i ≡ unless_seduction x (enabled_kind c x)
    walk_there = ap (λ y. unless_seduction y (enabled_kind c y)) (leads_once (top-ends c lawful i there (inl free)).leads x leads)
