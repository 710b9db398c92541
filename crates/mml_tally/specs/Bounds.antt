-- The most moves, rounds and events of a run, from a world until no node is privileged, without a fault, link or cut. A
-- world is a network with its registers, its chosen moves, the number of its configuration, and the number of events so
-- far. A node is privileged if some rule is enabled there. A round is a list of events in which each node has its turn:
-- at some point it isn't privileged, or a close applies its move.
use Rattle.std.specs.Prelude.{ℕ}
use Rattle.mml_lab.specs.Labs.{link_count}
use Rattle.mml_board.specs.World.{World, size}
use Rattle.mml_convergence.specs.{Rounds.rounds_for, Most.most_moves, Most.events_to_rest}
use Rattle.mml_tally.specs.declared.bounds.Bounds.{Bounds}

-- the most moves, rounds and events in a network with these numbers of nodes and links
abbrev pub bounds_for : ℕ → ℕ → Bounds
bounds_for nodes links = record { moves = most_moves nodes links; rounds = rounds_for nodes; events = events_to_rest nodes links }

-- the most moves, rounds and events from the world w on
abbrev pub bounds_of : World → Bounds
bounds_of w = bounds_for (size w) (link_count w.network)
