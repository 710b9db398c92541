-- The steps of clauses: what they return, and why they fail.
use Rattle.std.proofs.Common.{◌≡◌, ℕ, ◌<◌, List, length, ◌==◌, Some, Ok, arith}
use Rattle.std.{proofs.lemmas.List.Quantifiers.position-Some}
use Rattle.mml_ids.specs.Ids.{rank_in}
use Rattle.mml_board.specs.{declared.denial.Denial.Denial}
use Rattle.mml_policy.specs.{Clauses.node}

-- if the step `node` finds i, i is the node with this identifier
pub node-ok : (ids : List ℕ) (id : ℕ) (d : Denial) (i : ℕ) → node ids id d ≡ Ok i → rank_in ids id ≡ Some i
node-ok ids id d i h = grind arith

-- if the step `node` finds i, i is a node
pub node_there : (ids : List ℕ) (id : ℕ) (d : Denial) (i : ℕ) → node ids id d ≡ Ok i → i < length ids
node_there ids id d i h = (position-Some (λ n. n == id) ids i 0 (node-ok ids id d i h)).0
