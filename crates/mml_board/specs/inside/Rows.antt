-- The index of a network: sets of nodes that answer questions about it quickly.
use Rattle.std.specs.Prelude.{◌≡◌, ℕ, ◌<◌, ◌&&◌, nat_lt, is_none, Option, None, Some, List, length}
use Rattle.std.specs.{FinSet.FinSet, Ordering.nat_cmp}
use Rattle.mml_rules.specs.{declared.regs.Regs.Regs, Configuration.holds, Network.neighbours_at, Network.registers_at, Network.with_neighbour, Network.without_neighbour}
use Rattle.std.specs.FinSet as set

-- the rows after the node is added to the suitors of p, the nodes that point at p; the same rows if p is null
abbrev pub with_suitor : List (FinSet nat_cmp) → Option ℕ → ℕ → List (FinSet nat_cmp)
with_suitor suitors None node = suitors
with_suitor suitors (Some i) node = with_neighbour suitors i node

-- the rows after the node is removed from the suitors of p, the nodes that point at p; the same rows if p is null
abbrev pub without_suitor : List (FinSet nat_cmp) → Option ℕ → ℕ → List (FinSet nat_cmp)
without_suitor suitors None node = suitors
without_suitor suitors (Some i) node = without_neighbour suitors i node

-- the index of the nodes below rank n: for each node, those that point at it (suitors); those with a null pointer
-- (free); and those with m true (believing)
pub record AreRows (registers : List Regs) (n : ℕ) (suitors : List (FinSet nat_cmp)) (free believing : FinSet nat_cmp) : Type 0 where
  pub count : length suitors ≡ length registers
  pub pointing : (i j : ℕ) → i < length registers → set.contains (neighbours_at suitors i) j ≡ (nat_lt j n && holds (registers_at registers j).p i)
  pub null : (j : ℕ) → set.contains free j ≡ (nat_lt j n && is_none (registers_at registers j).p)
  pub true_m : (j : ℕ) → set.contains believing j ≡ (nat_lt j n && (registers_at registers j).m)
