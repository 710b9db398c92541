-- The rounds of a run since its last fault, link or cut. A world is a network with its registers, its chosen moves, the
-- number of its configuration, and the number of events so far. A grant chooses a move for a node, a release drops it,
-- and a close applies all chosen moves at once. A fault sets a node's registers, a link joins two nodes, and a cut
-- removes a link.
use Rattle.std.specs.Prelude.{ℕ, ◌+◌, ◌==◌, Bool, not, if◌then◌else◌, List, [], ◌∷◌, ◌++◌, take, drop, codes}
use Rattle.mml_ids.specs.Search.{count_below}
use Rattle.mml_lab.specs.Labs.{LabValue}
use Rattle.mml_board.specs.{declared.event.Event.Event, World.World, World.size, World.opening_of, Runs.world_of}
use Rattle.mml_convergence.specs.Rounds.{is_served}
use Rattle.mml_tally.specs.{Runs.last_change, Texts.numbers_text}

-- whether each node has its turn in these events
abbrev pub is_round : World → List Event → Bool
is_round w es = count_below (size w) (λ i. not (is_served i w es)) == 0

-- how many rounds end in the events es, if the current round began in the world w and has had the events fs so far. A
-- round ends with the event after which each node has had its turn, and the next round begins there
abbrev pub rounds_from : World → List Event → List Event → ℕ
rounds_from w fs [] = 0
rounds_from w fs (e ∷ es) = if is_round w (fs ++ e ∷ []) then 1 + rounds_from (world_of w (fs ++ e ∷ [])) [] es else rounds_from w (fs ++ e ∷ []) es

-- how many rounds end in the events; each begins when the one before it ends
abbrev pub rounds_in : World → List Event → ℕ
rounds_in w es = rounds_from w [] es

-- how many rounds end in the events after the first k
abbrev pub rounds_after : ℕ → World → List Event → ℕ
rounds_after k w es = rounds_in (world_of w (take k es)) (drop k es)

-- how many rounds end in the events after the last fault, link or cut
abbrev pub rounds_since : World → List Event → ℕ
rounds_since w es = rounds_after (last_change 0 1 es) w es

-- the line about the rounds of a lab's run since its last fault, link or cut
abbrev pub rounds_line : LabValue → List Event → List ℕ
rounds_line lab es = codes "rounds" ++ (numbers_text (rounds_since (opening_of lab.network) es ∷ []) ++ codes "\n")
