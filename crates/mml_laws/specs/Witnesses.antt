-- Which rule is enabled at the last node of a way along the pointers.
use Rattle.std.specs.Prelude.{◌≡◌, ◌≢◌, ℕ, Some}
use Rattle.mml_rules.specs.{declared.rule.Kind.Kind, Configuration.Configuration, Rules.enabled_kind}

-- a rule of this kind, which isn't a seduction, is enabled at the node
abbrev pub EndsIn : Configuration → ℕ → Kind → Type 0
EndsIn c x kind = (enabled_kind c x ≡ Some kind) × (kind ≢ Kind.Seduction)

-- no rule is enabled at the node, or only a seduction
abbrev pub IsIdle : Configuration → ℕ → Type 0
IsIdle c x = (kind : Kind) → enabled_kind c x ≡ Some kind → kind ≡ Kind.Seduction
