-- If nodes get other names in the same order, each open link has the same node as its witness. A climb is the walk
-- along the pointers with a limit on the number of its steps.
use Rattle.std.proofs.Common.{◌≡◌, ◌⊎◌, ℕ, zero, suc, ◌<◌, ◌≤◌, true, false, Option, None, Some, unwrap_or, is_some, ap, arith, inl, inr}
use Rattle.std.proofs.lemmas.Bool.{and_parts, Decides.nat_tests}
use Rattle.mml_rules.specs.{declared.rule.Kind.Kind, Configuration.Configuration, Configuration.IsLawful, Rules.is_married, Rules.is_privileged, Naming.IsRenamed}
use Rattle.mml_rules.proofs.{RulesLemmas.pointee_in, NamingLemmas.kind_named}
use Rattle.mml_stable.specs.{Walk.climb, Walk.top, Walk.certificate, Walk.LeadsTo, Walk.LeadsTo.privileged, Walk.LeadsTo.null, Walk.LeadsTo.onward, Reports.is_open}
use Rattle.mml_stable.proofs.WalkLemmas.{top-ends, climb_stops, climb_null}

module _ (f : ℕ → ℕ) (c d : Configuration) (l : IsLawful c) (r : IsRenamed f c d) where
  privileged_at : (i : ℕ) → i < c.size → is_privileged d (f i) ≡ is_privileged c i
  privileged_at i a = ap is_some (kind_named f c d l r i a)

  -- the name of node i is at least i
  rank_first : (i : ℕ) → i < c.size → i ≤ f i
  rank_first zero a = omega arith
  rank_first (suc i) a = let below = rank_first i (omega arith) in let up = r.rising i (suc i) (omega arith) a in omega arith

  -- if a climb reaches the end of the walk, it reaches the same node under the new names
  climbed : (n m i : ℕ) → n ≤ m → i < c.size → (is_privileged c (climb c n i) ≡ true) ⊎ (c.p (climb c n i) ≡ None) → climb d m (f i) ≡ f (climb c n i)
  climbed zero m i room i_in end = grind (arith, nat_tests, climb_stops d m (f i), climb_null d m (f i), privileged_at i, r.p i)
  climbed (suc n) zero i room i_in end = absurd (omega arith)
  climbed (suc n) (suc m) i room i_in end =
      grind (arith, nat_tests, climb_null c n i, climb_null d m (f i), privileged_at i, r.p i, pointee_in c i, climbed n m, is_privileged c i, c.p i)

  ends_there : (i x : ℕ) → LeadsTo c i x → (is_privileged c x ≡ true) ⊎ (c.p x ≡ None)
  ends_there i x (privileged h) = inl h
  ends_there i x (null h p) = inr p
  ends_there i x (onward h p further) = ends_there _ x further

  top_named : (i : ℕ) → i < c.size → (is_married c i ≡ false) ⊎ (c.m i ≡ false) → top d (f i) ≡ f (top c i)
  unfolding top
  top_named i i_in free = climbed c.size d.size i (grind (arith, rank_first)) i_in (ends_there i (top c i) (top-ends c l i i_in free).leads)

  -- the result of a walk, with the node under its new name
  abbrev found : Option (ℕ × Kind) → Option (ℕ × Kind)
  found None = None
  found (Some e) = Some (f e.0, e.1)

  either : (x y : Option (ℕ × Kind)) (a : ℕ)
      → unwrap_or (found x) (unwrap_or (found y) (f a, Kind.Seduction))
      ≡ (f (unwrap_or x (unwrap_or y (a, Kind.Seduction))).0, (unwrap_or x (unwrap_or y (a, Kind.Seduction))).1)
  either x y a = grind (arith, nat_tests)

  pub witness_named : (a b : ℕ) → is_open c a b ≡ true → certificate d (f a) (f b) ≡ (f (certificate c a b).0, (certificate c a b).1)
  unfolding certificate
  witness_named a b h = grind (arith, nat_tests, and_parts, top-ends, top_named, kind_named)
