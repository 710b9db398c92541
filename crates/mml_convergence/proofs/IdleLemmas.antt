-- Nodes at which no rule is enabled, and nodes at which a certain rule is.
use Rattle.std.proofs.Common.{◌≡◌, ℕ, ◌<◌, ◌≤◌, ◌⊎◌, true, false, not, None, Some, sym, ap, ◌∙◌, arith}
use Rattle.std.proofs.lemmas.Bool.{both_ways, false_from_ne_true, Decides.nat_tests}
use Rattle.mml_rules.specs.{declared.rule.Rule.Rule, Configuration.Configuration, Configuration.IsLawful, Configuration.holds, Meaning.IsMRight, Meaning.IsCandidate}
use Rattle.mml_rules.specs.Rules.{is_married, greatest_candidate, guard, is_privileged}
use Rattle.mml_rules.proofs.{ConfigurationLemmas.holds-from, RulesLemmas.married-null, RulesLemmas.married-at, RulesLemmas.married-from}
use Rattle.mml_rules.proofs.MeaningLemmas.{beq-same, right-means, guard-means, greatest-means, privileged-means}
use Rattle.mml_convergence.proofs.MovesLemmas.{updates, marries, seduces, seduced, abandons, abandoned}

module _ (c : Configuration) (l : IsLawful c) where
  -- if no rule's guard holds at a node, it isn't privileged
  idle : (i : ℕ) → ((rule : Rule) → guard c i rule ≡ true → ⊥) → is_privileged c i ≡ false
  idle i none = false_from_ne_true (is_privileged c i) (λ e. let x = (privileged-means c i l).0 e in none x.0 x.1)

  pub privileged : (i : ℕ) (rule : Rule) → guard c i rule ≡ true → is_privileged c i ≡ true
  privileged i rule g = (privileged-means c i l).1 (rule, g)

  -- a node of a pair with m true isn't privileged
  pub settled : (i j : ℕ) → c.p i ≡ Some j → c.p j ≡ Some i → c.m i ≡ true → is_privileged c i ≡ false
  settled i j a b m = grind (arith, nat_tests, idle, updates, married-from, marries, seduced, seduces, abandons, holds-from)

  -- a node isn't privileged if it points at a higher node, which doesn't point back, and both have m false
  pub waiting : (i j : ℕ) → c.p i ≡ Some j → holds (c.p j) i ≡ false → c.m i ≡ false → c.m j ≡ false → i < j → is_privileged c i ≡ false
  waiting i j a off m n lt = grind (arith, nat_tests, idle, updates, married-at, marries, seduced, seduces, abandons)

  -- a node isn't privileged if its pointer is null, m is false, no node points at it, and each higher neighbour points
  -- at some node
  pub lonely : (i : ℕ) → c.p i ≡ None → c.m i ≡ false → ((j : ℕ) → c.p j ≡ Some i → ⊥) → ((j : ℕ) → c.linked i j ≡ true → i < j → c.p j ≡ None → ⊥) → is_privileged c i ≡ false
  lonely i a m none top = idle i go
    where
      go : (rule : Rule) → guard c i rule ≡ true → ⊥
      go Rule.Update g = both_ways (c.m i) m (updates c i g ∙ ap not (married-null c i a))
      go (Rule.Marriage k) g = none k (marries c i k g).suitor
      go Rule.Seduction g = let some = seduced c i g in let s = seduces c i some.0 g some.1 in top some.0 s.linked s.higher s.free
      go Rule.Abandonment g = let some = abandoned c i g in let e = some.1 in cc

  pub may_update : (i : ℕ) → c.m i ≡ not (is_married c i) → guard c i Rule.Update ≡ true
  may_update i e = grind (arith, c.m i, is_married c i)

  right : (i : ℕ) → c.m i ≡ is_married c i → IsMRight c i
  right i e = (right-means c i l).0 (beq-same (c.m i) (is_married c i) e)

  pub may_marry : (i j : ℕ) → c.p i ≡ None → c.m i ≡ false → c.linked i j ≡ true → c.p j ≡ Some i → guard c i (Rule.Marriage j) ≡ true
  may_marry i j a m linked b = (guard-means c i (Rule.Marriage j) l).1 (right i (m ∙ sym (married-null c i a)), a, linked, b)

  pub may_abandon : (i j : ℕ) → c.p i ≡ Some j → holds (c.p j) i ≡ false → c.m i ≡ false → (c.m j ≡ true) ⊎ (j < i) → guard c i Rule.Abandonment ≡ true
  may_abandon i j a off m vain = grind (arith, nat_tests, guard-means, right, married-at, holds-from)

  pub may_seduce : (i j : ℕ) → c.p i ≡ None → c.m i ≡ false → ((k : ℕ) → c.p k ≡ Some i → ⊥) → IsCandidate c i j → guard c i Rule.Seduction ≡ true
  may_seduce i j a m none candidate = (guard-means c i Rule.Seduction l).1 (right i (m ∙ sym (married-null c i a)), a, (λ suitor. none suitor.0 suitor.2), (j, candidate))

  pub seduces_greatest : (i j : ℕ) → IsCandidate c i j → ((k : ℕ) → IsCandidate c i k → k ≤ j) → greatest_candidate c i ≡ Some j
  seduces_greatest i j candidate most = (greatest-means c i j l).1 (candidate, most)
