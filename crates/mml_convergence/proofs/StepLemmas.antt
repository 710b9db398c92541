-- What a step does to pairs and to m.
use Rattle.std.proofs.Common.{◌≡◌, ℕ, ◌≤◌, ◌+◌, Bool, true, false, cond, not, ◌⊎◌, Option, Some, arith}
use Rattle.std.{specs.Bool.beq, proofs.lemmas.Bool.not-true, proofs.lemmas.Bool.both_ways, proofs.lemmas.Bool.false_from_ne_true, proofs.lemmas.Bool.Decides.nat_tests}
use Rattle.mml_rules.specs.{declared.rule.Rule.Rule, Configuration.Configuration, Configuration.IsLawful, Matching.IsPair}
use Rattle.mml_rules.specs.Rules.{is_married, guard, effect, moved, step, AllHold}
use Rattle.mml_rules.proofs.{ConfigurationLemmas.holds-from, RulesLemmas.married-partner, RulesLemmas.married-from, RulesLemmas.none-null, StepLemmas.step-lawful}

-- if `beq` is false, one truth value is the opposite of the other
pub beq-false : (a b : Bool) → beq a b ≡ false → a ≡ not b
beq-false a b h = grind arith

-- a node of a pair keeps its pointer if it moves
pub answered-keeps : (c : Configuration) (i j : ℕ) (r : Rule) → c.p i ≡ Some j → c.p j ≡ Some i → guard c i r ≡ true → (effect c i r).p ≡ Some j
answered-keeps c i j r a b h = grind (arith, nat_tests, none-null, holds-from)

-- a node of a pair keeps its pointer in a step
pub moved_keeps : (c : Configuration) (i j : ℕ) (o : Option Rule) → ((r : Rule) → o ≡ Some r → guard c i r ≡ true) → c.p i ≡ Some j → c.p j ≡ Some i → (moved c i o).p ≡ Some j
moved_keeps c i j o h a b = grind (arith, nat_tests, answered-keeps)

-- a step keeps every pair
pub step_keeps : (c : Configuration) (chosen : ℕ → Option Rule) → AllHold c chosen → (i j : ℕ) → IsPair c i j → IsPair (step c chosen) i j
step_keeps c chosen h i j e = (moved_keeps c i j (chosen i) (h i) e.0 e.1, moved_keeps c j i (chosen j) (h j) e.1 e.0)

-- an upper bound on how often m may still change at a node, given its m and whether it is married
abbrev pub weight : Bool → Bool → ℕ
weight true true = 0
weight true false = 2
weight false x = 1

-- 1 if m changes, and otherwise 0
abbrev pub change : Bool → Bool → ℕ
change m n = cond (beq m n) 0 1

-- a move leaves m as it was, or makes it right if it was wrong
pub moved-m : (c : Configuration) (i : ℕ) (o : Option Rule) → ((r : Rule) → o ≡ Some r → guard c i r ≡ true)
    → ((moved c i o).m ≡ c.m i) ⊎ (((moved c i o).m ≡ is_married c i) × (c.m i ≡ not (is_married c i)))
moved-m c i o h = grind (arith, nat_tests, beq-false, not-true)

-- a step leaves a married node married
pub step-married : (c : Configuration) (chosen : ℕ → Option Rule) → IsLawful c → AllHold c chosen → (i : ℕ) → is_married c i ≡ true → is_married (step c chosen) i ≡ true
step-married c chosen l h i e =
    let r = married-partner c i e in
    let k = step_keeps c chosen h i r.0 (r.1, r.2) in
    married-from (step c chosen) i r.0 (step-lawful c chosen l h) k.0 k.1

-- a node that is free after a step was free before
pub step-free : (c : Configuration) (chosen : ℕ → Option Rule) → IsLawful c → AllHold c chosen → (i : ℕ) → is_married (step c chosen) i ≡ false → is_married c i ≡ false
step-free c chosen l h i e = false_from_ne_true (is_married c i) (λ m. both_ways (is_married (step c chosen) i) e (step-married c chosen l h i m))

-- if a step changes m at a node, the weight of the node falls by at least 1
pub step-weight : (c : Configuration) (chosen : ℕ → Option Rule) → IsLawful c → AllHold c chosen → (i : ℕ)
    → change (c.m i) ((step c chosen).m i) + weight ((step c chosen).m i) (is_married (step c chosen) i) ≤ weight (c.m i) (is_married c i)
step-weight c chosen l h i = grind (arith, nat_tests, step-married, moved-m)

-- a node's weight is at most 2
pub weight_at_most : (m x : Bool) → weight m x ≤ 2
weight_at_most m x = grind arith
