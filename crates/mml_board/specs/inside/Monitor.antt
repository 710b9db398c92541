-- The set of privileged nodes, and the nodes that a change doesn't affect.
use Rattle.std.specs.{Prelude.◌≡◌, Prelude.ℕ, Prelude.◌≤◌, Prelude.Bool, Prelude.true, Prelude.false, Prelude.◌&&◌, Prelude.nat_lt, Prelude.List, Prelude.length, FinSet.FinSet, Ordering.nat_cmp}
use Rattle.mml_ids.specs.Sets.{those_below}
use Rattle.mml_rules.specs.{declared.regs.Regs.Regs, Configuration.Configuration, Rules.is_privileged}
use Rattle.mml_board.specs.World.{World, configuration, IsWorld}
use Rattle.std.specs.FinSet as set

-- j is a node, and privileged
abbrev pub is_privileged_node : Configuration → ℕ → Bool
is_privileged_node c j = nat_lt j c.size && is_privileged c j

-- the nodes that are privileged
unfoldable pub privileged_set : Configuration → FinSet nat_cmp
privileged_set c = those_below c.size (is_privileged c)

-- neither j nor a neighbour of it was changed
pub record IsUntouched (c : Configuration) (changed : FinSet nat_cmp) (j : ℕ) : Type 0 where
  pub here : set.contains changed j ≡ false
  pub near : (k : ℕ) → c.linked j k ≡ true → set.contains changed k ≡ false

-- the world is lawful, with no more configurations than events; there is room for the effect of each node, and the
-- stored set has exactly the privileged nodes
pub record IsBoard (w : World) (effects : List Regs) (privileged : FinSet nat_cmp) : Type 0 where
  pub world : IsWorld w
  pub room : length effects ≡ length w.network.registers
  pub number : w.number ≤ w.place
  pub monitor : privileged ≡ privileged_set (configuration w)
