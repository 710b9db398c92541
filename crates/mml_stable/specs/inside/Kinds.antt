-- The list of the rules that are enabled at the nodes.
use Rattle.std.specs.Prelude.{◌≡◌, ℕ, ◌<◌, ◌≤◌, List, Option, None, length, slice_index_or}
use Rattle.mml_rules.specs.{declared.rule.Kind.Kind, Configuration.Configuration, Rules.enabled_kind}

-- at each node below n, the list has the rule that is enabled there
abbrev pub AreFound : Configuration → ℕ → List (Option Kind) → Type 0
AreFound c n kinds = (i : ℕ) → i < n → slice_index_or kinds i None ≡ enabled_kind c i

-- the list has an entry for each node: the rule that is enabled there, if one is
pub record AreKinds (c : Configuration) (kinds : List (Option Kind)) : Type 0 where
  pub room : c.size ≤ length kinds
  pub found : AreFound c c.size kinds
