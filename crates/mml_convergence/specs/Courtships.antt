-- Courtships: pointers of nodes that aren't married at higher nodes that may still marry them.
use Rattle.std.specs.Prelude.{ℕ, zero, suc, ◌+◌, ◌*◌, Bool, false, not, ◌&&◌, is_some, nat_lt, if◌then◌else◌}
use Rattle.std.specs.Option.{option_map_or}
use Rattle.mml_ids.specs.Search.{count_below}
use Rattle.mml_rules.specs.{Configuration.Configuration, Rules.is_married}
use Rattle.mml_convergence.specs.Potential.{sum_below}

-- i points at a higher node that isn't married and whose m is false
abbrev pub is_courting : Configuration → ℕ → Bool
is_courting c i = option_map_or (λ j. nat_lt i j && (not (c.m j) && not (is_married c j))) (c.p i) false

-- the part of the pointer of i, if i isn't married: 0 if i courts a node, 2 if i points at a node without courting it,
-- and 1 if i points at none
abbrev pub pointer_part : Configuration → ℕ → ℕ
pointer_part c i = if is_courting c i then 0 else if is_some (c.p i) then 2 else 1

-- the part of node i: if i is married, 0 if m is true, and 1 otherwise; if i isn't married, 1 if m is true, and in
-- addition the part of its pointer
abbrev pub node_part : Configuration → ℕ → ℕ
node_part c i =
    if is_married c i then (if c.m i then 0 else 1)
    else (if c.m i then 1 else 0) + pointer_part c i

-- the greatest number of courtships among n nodes that aren't married: n²/4, rounded down. If two of n + 2 nodes marry,
-- at most n + 1 courtships end: one of each other node, and one between the two
abbrev pub most_courtships : ℕ → ℕ
most_courtships zero = 0
most_courtships (suc zero) = 0
most_courtships (suc (suc n)) = n + 1 + most_courtships n

-- the sum of the parts of all nodes, and 2 for each of the courtships that are possible among the nodes that aren't
-- married
unfoldable pub courting_potential : Configuration → ℕ
courting_potential c = sum_below c.size (node_part c) + 2 * most_courtships (count_below c.size (λ i. not (is_married c i)))
