-- How a board stores its world.
use Rattle.std.specs.{Prelude.◌≡◌, Prelude.ℕ, Prelude.is_some, Prelude.Option, Prelude.List, FinSet.FinSet, Ordering.nat_cmp}
use Rattle.mml_rules.specs.{declared.rule.Rule.Rule, Network.Network}
use Rattle.mml_board.specs.World.{World, chosen_at}
use Rattle.std.specs.FinSet as set

-- the set has exactly the nodes with a chosen move
abbrev pub AreChosen : List (Option Rule) → FinSet nat_cmp → Type 0
AreChosen chosen nodes = (i : ℕ) → set.contains nodes i ≡ is_some (chosen_at chosen i)

-- the world that the stored parts of a board represent
abbrev pub kept_world : Network → List (Option Rule) → ℕ → ℕ → World
kept_world network chosen number place = record { network = network; chosen = chosen; number = number; place = place }
