-- The reply to a command names only nodes of the lab.
use Rattle.std.specs.{Prelude.ℕ, Prelude.◌<◌, Prelude.List, Prelude.length, Prelude.IfSome, List.All}
use Rattle.mml_rules.specs.declared.regs.Regs.{Regs}
use Rattle.mml_board.specs.declared.done.Done.{Done}
use Rattle.mml_policy.specs.declared.{see.See.See, look.Look.Look}
use Rattle.mml_policy.specs.declared.ruling.Ruling.{Ruling, TheVariants.Denied, TheVariants.Seen, TheVariants.Looked, TheVariants.Reported, TheVariants.Full, TheVariants.Journal, TheVariants.Granted}
use Rattle.mml_board.specs.declared.done.Done.TheVariants as done

-- the node that is shown, and the node at which it points, are nodes of the lab
pub record IsSeen (ids : List ℕ) (s : See) : Type 0 where
  pub node : s.node < length ids
  pub pointer : IfSome s.regs.p (λ j. j < length ids)

-- a node that is shown with its registers, and the node at which it points, are nodes of the lab
abbrev pub IsNear : List ℕ → ℕ × Regs → Type 0
IsNear ids n = (n.0 < length ids) × IfSome n.1.p (λ j. j < length ids)

-- the node that a look shows, its neighbours, and the nodes at which these nodes point are nodes of the lab
pub record IsLookedAt (ids : List ℕ) (l : Look) : Type 0 where
  pub node : l.node < length ids
  pub pointer : IfSome l.regs.p (λ j. j < length ids)
  pub near : All (IsNear ids) l.near

-- the nodes of an event's effect are nodes of the lab; the set of the nodes that a close moves isn't restricted
abbrev pub IsDone : List ℕ → Done → Type 0
IsDone ids (done.Move node kind) = node < length ids
IsDone ids (done.Close moved) = Unit {0}
IsDone ids (done.Fault node dropped) = node < length ids
IsDone ids (done.Link a b dropped) = (a < length ids) × (b < length ids)
IsDone ids (done.Cut a b dropped) = (a < length ids) × (b < length ids)
IsDone ids (done.Release node) = node < length ids

-- the nodes that a ruling shows, the nodes at which they point, and the nodes of an event's effect are nodes of the lab
abbrev pub IsRuled : List ℕ → Ruling → Type 0
IsRuled ids (Denied d) = Unit {0}
IsRuled ids (Seen s) = IsSeen ids s
IsRuled ids (Looked l) = IsLookedAt ids l
IsRuled ids Reported = Unit {0}
IsRuled ids Full = Unit {0}
IsRuled ids Journal = Unit {0}
IsRuled ids (Granted e done) = IsDone ids done
