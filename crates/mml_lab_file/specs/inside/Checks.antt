-- How the program checks a file: it looks up the ranks of the links' ends, and makes the lab from its results.
use Rattle.std.specs.Prelude.{ℕ, ℤ, Bool, false, not, ◌&&◌, List, map, Option, is_some}
use Rattle.std.specs.{Option.option_map_or, FinSet.FinSet, Ordering.nat_cmp}
use Rattle.mml_ids.specs.Ids.{rank_in}
use Rattle.mml_rules.specs.Network.{neighbours_at}
use Rattle.mml_lab.specs.{Rosters.Account, Rosters.with_owners, Labs.LabValue}
use Rattle.mml_lab_file.specs.{Shape.NodeSpec, Reading.number_of, Reading.registers_with, Reading.owners_with}
use Rattle.std.specs.FinSet as set

-- the rank of the node that an integer of the file names, if it names one
unfoldable pub rank_at : List ℕ → ℤ → Option ℕ
rank_at ids z = rank_in ids (number_of z)

-- an end of the link has no rank
abbrev pub lacks_rank : List ℕ → ℤ × ℤ → Bool
lacks_rank ids link = not (is_some (rank_at ids link.0) && is_some (rank_at ids link.1))

-- both are nodes, and the second is a neighbour of the first in the rows
unfoldable pub are_near : List (FinSet nat_cmp) → Option ℕ → Option ℕ → Bool
are_near rows a b = option_map_or (λ i. option_map_or (set.contains (neighbours_at rows i)) b false) a false

-- the lab with these identifiers, accounts, nodes, rows of neighbours and limits
unfoldable pub lab_with : List ℕ → Account → List Account → List NodeSpec → List (FinSet nat_cmp) → ℕ → ℕ → LabValue
lab_with ids teacher students nodes neighbours events sessions = record {
  ids = ids;
  roster = with_owners teacher students (map (owners_with students nodes) ids);
  network = record { neighbours = neighbours; registers = map (registers_with ids nodes) ids };
  events = events;
  sessions = sessions;
}
