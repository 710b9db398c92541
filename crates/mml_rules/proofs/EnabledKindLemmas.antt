-- At most one of the four rules is enabled at a node, and `enabled_kind` names it.
use Rattle.std.proofs.lemmas.Bool.{Decides.nat_tests, and_parts, and_from, not-true, false_from_ne_true, both_ways}
use Rattle.std.proofs.Common.{◌≡◌, ℕ, Bool, true, false, cond, not, Option, None, Some, is_some, is_none, sym, refl, ap, ◌∙◌, arith}
use Rattle.mml_rules.specs.{declared.rule.Rule.Rule, declared.rule.Kind.Kind, Configuration.Configuration, Configuration.IsLawful}
use Rattle.mml_rules.specs.Rules.{has_suitor, greatest_candidate, m_is_right, points_in_vain, guard, kind_of, enabled_kind, is_privileged}
use Rattle.mml_rules.proofs.ConfigurationLemmas.{holds-true, holds-from}
use Rattle.mml_rules.proofs.RulesLemmas.{suitor-from, suitor-find, vain-some, some-null, null-some}

some-path : {x y : Kind} → Some x ≡ Some y → x ≡ y
some-path h = cc

-- `enabled_kind` as a function of its five tests
abbrev pub choose : Bool → Bool → Bool → Bool → Bool → Option Kind
choose settled pointing vain suitor best =
    cond (not settled) (Some Kind.Update)
    (cond pointing (cond vain (Some Kind.Abandonment) None)
    (cond suitor (Some Kind.Marriage) (cond best (Some Kind.Seduction) None)))

kind-choose : (c : Configuration) (i : ℕ)
    → enabled_kind c i ≡ choose (m_is_right c i) (is_some (c.p i)) (points_in_vain c i) (has_suitor c i) (is_some (greatest_candidate c i))
unfolding enabled_kind
kind-choose c i = refl

-- if the guard of a rule holds, `enabled_kind` names its kind, so at most one of the four kinds is enabled
pub guard-kind : (c : Configuration) (i : ℕ) (r : Rule) → IsLawful c → guard c i r ≡ true → enabled_kind c i ≡ Some (kind_of r)
guard-kind c i r l h =
    grind (arith, nat_tests, kind-choose, not-true, and_parts, null-some, suitor-from, holds-true, vain-some)

-- at a node that isn't privileged, no rule's guard holds
pub idle-guard : (c : Configuration) (i : ℕ) (r : Rule) → IsLawful c → is_privileged c i ≡ false → guard c i r ≡ false
idle-guard c i r l h = grind (arith, false_from_ne_true, both_ways, guard-kind)

-- if `enabled_kind` names a kind, the guard of some rule of this kind holds
pub kind-guard : (c : Configuration) (i : ℕ) (k : Kind) → enabled_kind c i ≡ Some k → (r : Rule) × (kind_of r ≡ k) × (guard c i r ≡ true)
kind-guard c i k h =
    go (m_is_right c i) (is_some (c.p i)) (points_in_vain c i) (has_suitor c i) (is_some (greatest_candidate c i)) refl refl refl refl refl
    (sym (kind-choose c i) ∙ h)
  where
    null : is_some (c.p i) ≡ false → is_none (c.p i) ≡ true
    null e = some-null (c.p i) e

    go : (s p v u b : Bool) → m_is_right c i ≡ s → is_some (c.p i) ≡ p → points_in_vain c i ≡ v → has_suitor c i ≡ u
        → is_some (greatest_candidate c i) ≡ b → choose s p v u b ≡ Some k → (r : Rule) × (kind_of r ≡ k) × (guard c i r ≡ true)
    go false p v u b es ep ev eu eb e = (Rule.Update, some-path e, ap not es)
    go true true true u b es ep ev eu eb e = (Rule.Abandonment, some-path e, and_from _ _ es ev)
    go true true false u b es ep ev eu eb e = cc
    go true false v true b es ep ev eu eb e =
        let k = suitor-find c i eu in
        (Rule.Marriage k.0, some-path e, and_from _ _ es (and_from _ _ (null ep) (and_from _ _ k.1 (holds-from (c.p k.0) i k.2))))
    go true false v false true es ep ev eu eb e = (Rule.Seduction, some-path e, and_from _ _ es (and_from _ _ (null ep) (and_from _ _ (ap not eu) eb)))
    go true false v false false es ep ev eu eb e = cc

-- two rules whose guards hold at one node are of the same kind
pub one-kind : (c : Configuration) (i : ℕ) (r s : Rule) → IsLawful c → guard c i r ≡ true → guard c i s ≡ true → kind_of r ≡ kind_of s
one-kind c i r s l g h = some-path (sym (guard-kind c i r l g) ∙ guard-kind c i s l h)

-- which kind is enabled
pub ruleset kinds = (guard-kind, kind-guard, one-kind)
