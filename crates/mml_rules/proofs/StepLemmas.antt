-- What a step changes, that the configuration stays lawful, and that the pairs are a matching.
use Rattle.std.proofs.Common.{◌≡◌, ℕ, true, not, ◌&&◌, Option, None, Some, is_none, nat_lt, sym, refl, ap, ◌∙◌, arith}
use Rattle.std.proofs.lemmas.Bool.{and_parts}
use Rattle.mml_rules.specs.{declared.rule.Rule.Rule, Configuration.Configuration, Configuration.IsLawful, Matching.IsMatching}
use Rattle.mml_rules.specs.Rules.{guard, effect, registers_of, moved, step, AllHold}
use Rattle.mml_rules.proofs.RulesLemmas.{greatest-is}

-- no node is in two pairs, in any configuration
pub matching : (c : Configuration) → IsMatching c
matching c i j k a b = let e : Some j ≡ Some k = sym a.0 ∙ b.0 in cc

-- after a step, a node whose move is chosen has the registers that its rule writes
pub step-chosen : (c : Configuration) (chosen : ℕ → Option Rule) (i : ℕ) (r : Rule) → chosen i ≡ Some r → registers_of (step c chosen) i ≡ effect c i r
step-chosen c chosen i r h = ap (λ o. record { p = (moved c i o).p; m = (moved c i o).m }) h

-- a node without a chosen move keeps its registers
pub step-other : (c : Configuration) (chosen : ℕ → Option Rule) (i : ℕ) → chosen i ≡ None → registers_of (step c chosen) i ≡ registers_of c i
step-other c chosen i h = ap (λ o. record { p = (moved c i o).p; m = (moved c i o).m }) h

-- if the guard of a rule holds, the node points only at a linked node after the rule
pub effect-linked : (c : Configuration) (i j : ℕ) (r : Rule) → IsLawful c → guard c i r ≡ true → (effect c i r).p ≡ Some j → c.linked i j ≡ true
effect-linked c i j Rule.Update l h e = l.to_linked i j e
effect-linked c i j (Rule.Marriage k) l h e = grind (arith, and_parts, is_none)
effect-linked c i j Rule.Seduction l h e = (and_parts (c.linked i j) (nat_lt i j && (is_none (c.p j) && not (c.m j))) (greatest-is c i j e)).0
effect-linked c i j Rule.Abandonment l h e = cc

pub moved-linked : (c : Configuration) (i j : ℕ) (o : Option Rule) → IsLawful c → ((r : Rule) → o ≡ Some r → guard c i r ≡ true)
    → (moved c i o).p ≡ Some j → c.linked i j ≡ true
moved-linked c i j None l h e = l.to_linked i j e
moved-linked c i j (Some r) l h e = effect-linked c i j r l (h r refl) e

-- if the guards of all chosen moves hold, the configuration is lawful after the step
pub step-lawful : (c : Configuration) (chosen : ℕ → Option Rule) → IsLawful c → AllHold c chosen → IsLawful (step c chosen)
step-lawful c chosen l h = grind (arith, moved-linked)

-- what a step does
pub ruleset of_steps = (step-chosen, step-other, step-lawful)
