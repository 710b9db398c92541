-- The rules that are enabled at the nodes are found one after another.
use Rattle.std.proofs.Common.{◌≡◌, ◌+◌, ◌<◌, ℕ, List, Option, length, set, arith, length-set, get_or-set_same, get_or-set_other}
use Rattle.std.proofs.lemmas.Bool.{Decides.nat_tests}
use Rattle.mml_rules.specs.{declared.rule.Kind.Kind, Configuration.Configuration, Rules.enabled_kind}
use Rattle.mml_stable.specs.inside.Kinds.{AreFound}

-- if the list has the rules that are enabled at the nodes below n, and the rule of node n is written into it, it has
-- the rules of the nodes below n + 1
pub one_found : (c : Configuration) (n : ℕ) (kinds : List (Option Kind)) (o : Option Kind) → n < length kinds → AreFound c n kinds → o ≡ enabled_kind c n
    → AreFound c (n + 1) (set kinds n o)
one_found c n kinds o room found is i h = grind (arith, nat_tests, get_or-set_same, get_or-set_other)

-- what the loop over the nodes needs
pub ruleset each_kind = (one_found, length-set)
