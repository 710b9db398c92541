-- The nodes that an act names exist.
use Rattle.std.specs.Prelude.{ℕ, ◌<◌, IfSome}
use Rattle.mml_board.specs.declared.act.Act.{Act}
use Rattle.mml_board.specs.declared.act.Act.TheVariants as act

-- if the act is a move whose node was found, this node is one of the n nodes
abbrev pub AreThere : ℕ → Act → Type 0
AreThere n (act.Move node rule at) = IfSome node (λ i. i < n)
AreThere n _ = Unit {0}

-- all nodes of the act that were found are among the n nodes
abbrev pub AreAllThere : ℕ → Act → Type 0
AreAllThere n (act.Move node rule at) = IfSome node (λ i. i < n)
AreAllThere n act.Close = Unit {0}
AreAllThere n (act.Fault node p m) = IfSome node (λ i. i < n) × IfSome p (λ o. IfSome o (λ j. j < n))
AreAllThere n (act.Link a b) = IfSome a (λ i. i < n) × IfSome b (λ i. i < n)
AreAllThere n (act.Cut a b) = IfSome a (λ i. i < n) × IfSome b (λ i. i < n)
AreAllThere n (act.Release node) = IfSome node (λ i. i < n)
