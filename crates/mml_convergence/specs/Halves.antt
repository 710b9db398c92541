-- The network of two halves. A run on it can have as many rounds as the bound allows.
use Rattle.std.specs.Prelude.{ℕ, ◌+◌, ◌*◌, Bool, true, ◌&&◌, ◌||◌, nat_lt, nat_le, None, map, replicate}
use Rattle.std.specs.List.{range_with_len}
use Rattle.mml_ids.specs.Sets.{those_below}
use Rattle.mml_rules.specs.Network.{Network}
use Rattle.mml_board.specs.World.{World, opening_of}

-- i is in the lower half, j is in the upper half, and i + j + 1 is at least n
abbrev pub joins_halves : ℕ → ℕ → ℕ → Bool
joins_halves n i j = nat_lt (2 * i) n && (nat_le n (2 * j) && (nat_lt j n && nat_le n (i + j + 1)))

-- the two nodes are in different halves, and the sum of their ranks is at least n - 1
abbrev pub is_joined : ℕ → ℕ → ℕ → Bool
is_joined n i j = joins_halves n i j || joins_halves n j i

-- the network of n nodes: nodes i and j are linked if `is_joined n i j`, and p is null and m is true at each node
abbrev pub halves : ℕ → Network
halves n = record {
  neighbours = map (λ i. those_below n (is_joined n i)) (range_with_len 0 n);
  registers = replicate n (record { p = None; m = true });
}

-- the world of the two halves at the beginning
abbrev pub halves_world : ℕ → World
halves_world n = opening_of (halves n)
