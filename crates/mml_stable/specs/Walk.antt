-- The walk from a node along the pointers, to a node at which a rule may be applied.
use Rattle.std.specs.Prelude.{◌≡◌, ℕ, zero, suc, true, false, if◌then◌else◌, Option, None, Some, unwrap_or}
use Rattle.mml_rules.specs.{declared.rule.Kind.Kind, Configuration.Configuration, Rules.enabled_kind, Rules.is_privileged}

-- the first of i, p(i), p(p(i)), .. that is privileged or points at no node; if there is none within n steps, the node
-- after n steps
abbrev pub climb : Configuration → ℕ → ℕ → ℕ
climb c zero i = i
climb c (suc n) i = if is_privileged c i then i else climb c n (unwrap_or (c.p i) i)

-- the node at which the walk from i along the pointers ends, after at most as many steps as there are nodes
unfoldable pub top : Configuration → ℕ → ℕ
top c i = climb c c.size i

-- the node with the rule enabled there; none if no rule is enabled, or if it is a seduction
abbrev pub unless_seduction : ℕ → Option Kind → Option (ℕ × Kind)
unless_seduction i None = None
unless_seduction i (Some Kind.Update) = Some (i, Kind.Update)
unless_seduction i (Some Kind.Marriage) = Some (i, Kind.Marriage)
unless_seduction i (Some Kind.Seduction) = None
unless_seduction i (Some Kind.Abandonment) = Some (i, Kind.Abandonment)

-- the node at which the walk from i ends, with the rule enabled there; none if no rule is enabled, or if it is a
-- seduction
abbrev pub walk : Configuration → ℕ → Option (ℕ × Kind)
walk c i = unless_seduction (top c i) (enabled_kind c (top c i))

-- the witness of a link between a and a greater b, both of them free: the node that the walk from a finds. If that walk
-- finds none, the witness is the node that the walk from b finds. If neither walk finds one, the witness is a with a
-- seduction
unfoldable pub certificate : Configuration → ℕ → ℕ → ℕ × Kind
certificate c a b = unwrap_or (walk c a) (unwrap_or (walk c b) (a, Kind.Seduction))

-- x is the first of i, p(i), p(p(i)), .. that is privileged or points at no node
pub data LeadsTo (c : Configuration) : ℕ → ℕ → Type 0 where
  privileged : {x : ℕ} → is_privileged c x ≡ true → LeadsTo c x x
  null : {x : ℕ} → is_privileged c x ≡ false → c.p x ≡ None → LeadsTo c x x
  onward : {i j x : ℕ} → is_privileged c i ≡ false → c.p i ≡ Some j → LeadsTo c j x → LeadsTo c i x
