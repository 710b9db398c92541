-- The comb: a tree on which a run can have one move less than the bound for its links, or two less if the number of
-- nodes is odd.
use Rattle.std.specs.Prelude.{ℕ, ◌+◌, ◌*◌, ◌-◌, Bool, true, ◌||◌, nat_lt, Option, None, Some, map, if◌then◌else◌}
use Rattle.std.specs.List.{range_with_len}
use Rattle.mml_ids.specs.Sets.{those_below}
use Rattle.mml_rules.specs.{Configuration.holds, Network.Network}
use Rattle.mml_board.specs.World.{World, opening_of}

-- the node at which i points at the beginning: n - 1 - i if 2i + 1 < n, and otherwise i + 1; the last node points at
-- none
abbrev pub first_pointer : ℕ → ℕ → Option ℕ
first_pointer n i = if nat_lt (2 * i + 1) n then Some (n - (i + 1)) else if nat_lt (i + 1) n then Some (i + 1) else None

-- i and j are linked in the comb of n nodes: at the beginning one of the two points at the other
abbrev pub is_comb : ℕ → ℕ → ℕ → Bool
is_comb n i j = holds (first_pointer n i) j || holds (first_pointer n j) i

-- the comb of n nodes: node i has the pointer `first_pointer n i`, two nodes are linked if one of them points at the
-- other, and m is true at each node
abbrev pub comb : ℕ → Network
comb n = record {
  neighbours = map (λ i. those_below n (is_comb n i)) (range_with_len 0 n);
  registers = map (λ i. record { p = first_pointer n i; m = true }) (range_with_len 0 n);
}

-- the world of the comb at the beginning
abbrev pub comb_world : ℕ → World
comb_world n = opening_of (comb n)
