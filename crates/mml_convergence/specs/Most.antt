-- The greatest numbers of moves and of events in a run on a network with these numbers of nodes and links, without
-- faults, links and cuts.
use Rattle.std.specs.Prelude.{ℕ, ◌+◌, ◌*◌, min}
use Rattle.mml_convergence.specs.Courtships.{most_courtships}

-- the greatest number of moves on n nodes with L links: 3n + 2 min(L, n²/4), with n²/4 rounded down
abbrev pub most_moves : ℕ → ℕ → ℕ
most_moves nodes links = 3 * nodes + 2 * min links (most_courtships nodes)

-- a grant and a close for each of these moves: 6n + 4 min(L, n²/4) events, with n²/4 rounded down
abbrev pub events_to_rest : ℕ → ℕ → ℕ
events_to_rest nodes links = 6 * nodes + 4 * min links (most_courtships nodes)
