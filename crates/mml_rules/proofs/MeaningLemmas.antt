-- Each test of the rules is true exactly if the fact that it tests holds.
use Rattle.std.proofs.lemmas.Bool.{Decides.nat_tests, and_parts, and_from, or_cases, or_left, or_right, not-true, false_from_ne_true, both_ways, false≢true, lt-ltb, ltb-true}
use Rattle.std.proofs.Common.{◌≡◌, ◌↔◌, ◌≢◌, ℕ, ◌<◌, Bool, true, not, ◌&&◌, nat_lt, Option, None, Some, is_some, is_none, refl, ap, arith}
use Rattle.std.specs.Bool.{beq}
use Rattle.mml_rules.specs.{declared.rule.Rule.Rule, Configuration.Configuration, Configuration.IsLawful, Configuration.holds}
use Rattle.mml_rules.specs.Rules.{is_married, has_suitor, is_candidate, greatest_candidate, m_is_right, points_in_vain, guard, effect, is_privileged}
use Rattle.mml_rules.specs.Meaning.{IsMarried, IsMRight, HasSuitor, IsCandidate, IsGreatestCandidate, PointsInVain, MayApply}
use Rattle.mml_ids.proofs.SearchLemmas.{same_bool, some_below-find, some_below-at, greatest_below-some, greatest_below-none, greatest_above, greatest_is}
use Rattle.mml_rules.proofs.{ConfigurationLemmas.holds-true, ConfigurationLemmas.holds-from, EnabledKindLemmas.guard-kind, EnabledKindLemmas.kind-guard}
use Rattle.mml_rules.proofs.RulesLemmas.{suitor-from, suitor-find, none-null, null-none}

-- if `beq` is true, the two truth values are equal
pub beq-true : (a b : Bool) → beq a b ≡ true → a ≡ b
beq-true a b h = grind (arith, false≢true)

-- if the two truth values are equal, `beq` is true
pub beq-same : (a b : Bool) → a ≡ b → beq a b ≡ true
beq-same a b h = grind arith

-- ---- whether a node is married, and whether its m is right

married-to : (c : Configuration) (i : ℕ) → is_married c i ≡ true → IsMarried c i
unfolding is_married
married-to c i h = grind (arith, some_below-find, and_parts, holds-true)

married-back : (c : Configuration) (i : ℕ) → IsLawful c → IsMarried c i → is_married c i ≡ true
unfolding is_married
married-back c i l h =
    some_below-at c.size h.0 (λ j. c.linked i j && (holds (c.p i) j && holds (c.p j) i)) (l.in_range i h.0 h.1).1
    (and_from _ _ h.1 (and_from _ _ (holds-from (c.p i) h.0 h.2) (holds-from (c.p h.0) i h.3)))

-- `is_married` is true exactly if the node is married
pub married-means : (c : Configuration) (i : ℕ) → IsLawful c → (is_married c i ≡ true) ↔ IsMarried c i
married-means c i l = (married-to c i, married-back c i l)

right-to : (c : Configuration) (i : ℕ) → IsLawful c → m_is_right c i ≡ true → IsMRight c i
right-to c i l h = grind (arith, beq-true, married-to, married-back)

right-back : (c : Configuration) (i : ℕ) → IsLawful c → IsMRight c i → m_is_right c i ≡ true
right-back c i l h = beq-same _ _ (same_bool (c.m i) (is_married c i) (λ m. married-back c i l (h.0 m)) (λ k. h.1 (married-to c i k)))

-- `m_is_right` is true exactly if the node's m is right
pub right-means : (c : Configuration) (i : ℕ) → IsLawful c → (m_is_right c i ≡ true) ↔ IsMRight c i
right-means c i l = (right-to c i l, right-back c i l)

-- ---- suitors and candidates

-- `has_suitor` is true exactly if the node has a suitor
pub suitor-means : (c : Configuration) (i : ℕ) → IsLawful c → (has_suitor c i ≡ true) ↔ HasSuitor c i
suitor-means c i l = (suitor-find c i, λ h. suitor-from c i h.0 l h.1 h.2)

candidate-to : (c : Configuration) (i j : ℕ) → is_candidate c i j ≡ true → IsCandidate c i j
candidate-to c i j h = grind (arith, and_parts, nat_lt, is_none, ltb-true, none-null, not-true)

candidate-back : (c : Configuration) (i j : ℕ) → IsCandidate c i j → is_candidate c i j ≡ true
candidate-back c i j h = and_from _ _ h.0 (and_from _ _ (lt-ltb i j h.1) (and_from _ _ (null-none (c.p j) h.2) (ap not h.3)))

-- `is_candidate` is true exactly if j is a candidate of i
pub candidate-means : (c : Configuration) (i j : ℕ) → (is_candidate c i j ≡ true) ↔ IsCandidate c i j
candidate-means c i j = (candidate-to c i j, candidate-back c i j)

candidate_in : (c : Configuration) (i j : ℕ) → IsLawful c → IsCandidate c i j → j < c.size
candidate_in c i j l h = (l.in_range i j h.0).1

greatest-to : (c : Configuration) (i j : ℕ) → IsLawful c → greatest_candidate c i ≡ Some j → IsGreatestCandidate c i j
unfolding greatest_candidate
greatest-to c i j l h = (
  candidate-to c i j (greatest_below-some c.size j (is_candidate c i) h).1,
  λ k a. grind (arith, both_ways, greatest_above c.size j k (is_candidate c i) h, candidate_in c i k l a, candidate-back c i k a),
)

greatest-back : (c : Configuration) (i j : ℕ) → IsLawful c → IsGreatestCandidate c i j → greatest_candidate c i ≡ Some j
unfolding greatest_candidate
greatest-back c i j l h =
    greatest_is c.size j (is_candidate c i) (candidate_in c i j l h.0) (candidate-back c i j h.0) (λ k above below.
    false_from_ne_true (is_candidate c i k) (λ a. let least = h.1 k (candidate-to c i k a) in absurd (omega arith)))

-- `greatest_candidate` returns j exactly if j is the greatest candidate of i
pub greatest-means : (c : Configuration) (i j : ℕ) → IsLawful c → (greatest_candidate c i ≡ Some j) ↔ IsGreatestCandidate c i j
greatest-means c i j l = (greatest-to c i j l, greatest-back c i j l)

none-to : (c : Configuration) (i j : ℕ) → IsLawful c → greatest_candidate c i ≡ None → ¬ IsCandidate c i j
unfolding greatest_candidate
none-to c i j l h a = both_ways (is_candidate c i j) (greatest_below-none c.size j (is_candidate c i) h (candidate_in c i j l a)) (candidate-back c i j a)

none-back : (c : Configuration) (i : ℕ) → IsLawful c → ((j : ℕ) → ¬ IsCandidate c i j) → greatest_candidate c i ≡ None
none-back c i l h = grind (arith, λ (j : ℕ) (e : greatest_candidate c i ≡ Some j). h j (greatest-to c i j l e).0)

-- `greatest_candidate` returns none exactly if i has no candidate
pub no_greatest-means : (c : Configuration) (i : ℕ) → IsLawful c → (greatest_candidate c i ≡ None) ↔ ((j : ℕ) → ¬ IsCandidate c i j)
no_greatest-means c i l = (λ h j. none-to c i j l h, none-back c i l)

some-to : (c : Configuration) (i : ℕ) → IsLawful c → is_some (greatest_candidate c i) ≡ true → (j : ℕ) × IsCandidate c i j
some-to c i l h = go (greatest_candidate c i) refl h
  where
    go : (o : Option ℕ) → greatest_candidate c i ≡ o → is_some o ≡ true → (j : ℕ) × IsCandidate c i j
    go None e s = absurd (false≢true s)
    go (Some j) e s = (j, (greatest-to c i j l e).0)

-- ---- the four guards

-- `points_in_vain` is true exactly if `PointsInVain` holds
pub vain-means : (c : Configuration) (i : ℕ) → (points_in_vain c i ≡ true) ↔ PointsInVain c i
vain-means c i = (grind (arith, nat_lt, false≢true, and_parts, both_ways, not-true, holds-from, or_cases, ltb-true), grind (arith, nat_lt, and_from, false_from_ne_true, holds-true, or_left, or_right, lt-ltb))

guard-back : (c : Configuration) (i : ℕ) (r : Rule) → IsLawful c → MayApply c i r → guard c i r ≡ true
guard-back c i r l h = grind (arith, false_from_ne_true, right-to, and_from, right-back, null-none, holds-from, suitor-find, none-to, nat_lt, holds-true, or_left, or_right, lt-ltb)

-- only an update writes m
pub effect_keeps_m : (c : Configuration) (i : ℕ) (r : Rule) → r ≢ Rule.Update → (effect c i r).m ≡ c.m i
effect_keeps_m c i r other = grind (arith, nat_tests)

-- the guard of a rule holds exactly if the rule may be applied
pub guard-means : (c : Configuration) (i : ℕ) (r : Rule) → IsLawful c → (guard c i r ≡ true) ↔ MayApply c i r
guard-means c i r l = (grind (arith, both_ways, not-true, right-back, and_parts, is_none, right-to, none-null, holds-true, suitor-from, some-to, nat_lt, false≢true, holds-from, or_cases, ltb-true), guard-back c i r l)

-- `is_privileged` is true exactly if the guard of some rule holds at the node
pub privileged-means : (c : Configuration) (i : ℕ) → IsLawful c → (is_privileged c i ≡ true) ↔ ((r : Rule) × (guard c i r ≡ true))
privileged-means c i l = (grind (arith, false≢true, kind-guard), λ g. ap is_some (guard-kind c i g.0 l g.1))

-- what the tests and the guards mean
pub ruleset meanings = (married-means, right-means, suitor-means, vain-means, candidate-means, no_greatest-means, guard-means, privileged-means, effect_keeps_m)
