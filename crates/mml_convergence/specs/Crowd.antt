-- The dense network, or crowd. A run on it can have as many moves as the bound allows, or one less if the number of
-- nodes is odd.
use Rattle.std.specs.Prelude.{ℕ, ◌+◌, ◌*◌, ◌-◌, Bool, true, not, ◌&&◌, ◌==◌, nat_lt, nat_le, Some, map, if◌then◌else◌}
use Rattle.std.specs.List.{range_with_len}
use Rattle.mml_ids.specs.Sets.{those_below}
use Rattle.mml_rules.specs.Network.{Network}
use Rattle.mml_board.specs.World.{World, opening_of}

-- i and j are two nodes below n, and i + j + 1 is at least n
abbrev pub is_near : ℕ → ℕ → ℕ → Bool
is_near n i j = not (i == j) && (nat_lt i n && (nat_lt j n && nat_le n (i + j + 1)))

-- the node at which i points at the beginning: n - 1 - i if 2i + 1 < n, and otherwise i + 1; the last node points at
-- node 1
abbrev pub first_pointer : ℕ → ℕ → ℕ
first_pointer n i = if nat_lt (2 * i + 1) n then n - (i + 1) else if nat_lt (i + 1) n then i + 1 else 1

-- the network of n nodes: nodes i and j are linked if `is_near n i j`, node i points at `first_pointer n i`, and m is
-- true at each node
abbrev pub crowd : ℕ → Network
crowd n = record {
  neighbours = map (λ i. those_below n (is_near n i)) (range_with_len 0 n);
  registers = map (λ i. record { p = Some (first_pointer n i); m = true }) (range_with_len 0 n);
}

-- the world of the dense network at the beginning
abbrev pub crowd_world : ℕ → World
crowd_world n = opening_of (crowd n)
