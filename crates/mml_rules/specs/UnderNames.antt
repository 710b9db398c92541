-- Moves after the nodes are renamed, and numbers that name no node.
use Rattle.std.specs.Prelude.{◌≡◌, ◌≢◌, ℕ, ◌<◌, false, Option, None, Some}
use Rattle.mml_rules.specs.{declared.rule.Rule.Rule, Configuration.Configuration, Naming.renamed_rule}

-- the chosen move, if there is one, after each node i is renamed to f i
abbrev pub renamed_move : (ℕ → ℕ) → Option Rule → Option Rule
renamed_move f None = None
renamed_move f (Some r) = Some (renamed_rule f r)

-- the move of each node under its new name is its chosen move, with the partner renamed
abbrev pub AreRenamedMoves : (ℕ → ℕ) → ℕ → (ℕ → Option Rule) → (ℕ → Option Rule) → Type 0
AreRenamedMoves f size chosen named = (i : ℕ) → i < size → named (f i) ≡ renamed_move f (chosen i)

-- x is the name of no node
abbrev pub IsNoName : (ℕ → ℕ) → ℕ → ℕ → Type 0
IsNoName f size x = (i : ℕ) → i < size → f i ≢ x

-- a number that names no node of c has no link in d and points at no node, and its m is false
pub record IsEmptyElsewhere (f : ℕ → ℕ) (c d : Configuration) : Type 0 where
  pub links : (x y : ℕ) → IsNoName f c.size x → d.linked x y ≡ false
  pub p : (x : ℕ) → IsNoName f c.size x → d.p x ≡ None
  pub m : (x : ℕ) → IsNoName f c.size x → d.m x ≡ false
