-- The contents of a look. A world is the state of a run after some events: its network and its chosen moves.
use Rattle.std.specs.Prelude.{◌≡◌, ◌↔◌, ℕ, ◌<◌, true, Some, Contains}
use Rattle.mml_rules.specs.{declared.regs.Regs.Regs, declared.rule.Kind.Kind, declared.rule.Rule.Rule, Meaning.MayApply, Network.registers_at, Rules.kind_of}
use Rattle.mml_board.specs.World.{World, configuration, chosen_at}
use Rattle.mml_policy.specs.declared.look.Look.{Look}
use Rattle.mml_stable.specs.Listed.{Rises}

-- a node linked to i, with its registers
abbrev pub IsLinkedWith : World → ℕ → ℕ × Regs → Type 0
IsLinkedWith w i n = ((configuration w).linked i n.0 ≡ true) × (n.1 ≡ registers_at w.network.registers n.0)

-- some rule of this kind is chosen for i
abbrev pub IsChosenKind : World → ℕ → Kind → Type 0
IsChosenKind w i kind = (q : Rule) × (chosen_at w.chosen i ≡ Some q) × (kind_of q ≡ kind)

-- some rule of this kind may be applied at i
abbrev pub IsEnabledKind : World → ℕ → Kind → Type 0
IsEnabledKind w i kind = (q : Rule) × (kind_of q ≡ kind) × MayApply (configuration w) i q

-- the look shows node i as it is in the world, and nothing of it is left out
pub record IsWholeLook (w : World) (i : ℕ) (l : Look) : Type 0 where
  pub node : l.node ≡ i
  pub at : l.at ≡ w.number
  pub registers : l.regs ≡ registers_at w.network.registers i
  pub chosen : (kind : Kind) → (l.chosen ≡ Some kind) ↔ IsChosenKind w i kind
  pub enabled : (kind : Kind) → (l.enabled ≡ Some kind) ↔ IsEnabledKind w i kind
  pub near : (n : ℕ × Regs) → Contains l.near n ↔ IsLinkedWith w i n
  pub rising : Rises (λ a b. a.0 < b.0) l.near
