-- Rounds of a run: in each round, every node has its turn.
use Rattle.std.specs.Prelude.{◌≡◌, ℕ, zero, suc, ◌+◌, ◌<◌, true, not, ◌&&◌, ◌||◌, Bool, List, [], ◌∷◌, ◌++◌}
use Rattle.mml_rules.specs.Rules.{is_privileged}
use Rattle.mml_board.specs.{declared.event.Event.Event, World.World, World.size, World.configuration, Events.is_chosen, Events.after, Runs.world_of}
use Rattle.mml_convergence.specs.Moves.{is_close}

-- in these events i has its turn: at some point it isn't privileged, or a close applies its move
abbrev pub is_served : ℕ → World → List Event → Bool
is_served i w [] = not (is_privileged (configuration w) i)
is_served i w (e ∷ es) = not (is_privileged (configuration w) i) || ((is_close e && is_chosen w i) || is_served i (after w e) es)

-- a round: events in which each node has its turn
abbrev pub IsRound : World → List Event → Type 0
IsRound w es = (i : ℕ) → i < size w → is_served i w es ≡ true

-- the events are k rounds, one after another, followed by any other events
abbrev pub Rounds : ℕ → World → List Event → Type 0
Rounds zero w es = Unit {0}
Rounds (suc k) w es = (fs : List Event) × (gs : List Event) × (es ≡ fs ++ gs) × IsRound w fs × Rounds k (world_of w fs) gs

-- the bound on rounds: 4 for each two of n nodes, and 1 for a node left over; that is 2n, or 2n - 1 if n is odd
abbrev pub rounds_for : ℕ → ℕ
rounds_for zero = 0
rounds_for (suc zero) = 1
rounds_for (suc (suc n)) = 4 + rounds_for n

-- each privileged node has a chosen move
abbrev pub IsFull : World → Type 0
IsFull w = (i : ℕ) → i < size w → is_privileged (configuration w) i ≡ true → is_chosen w i ≡ true

-- at each close every privileged node has a chosen move
abbrev pub ClosesFull : World → List Event → Type 0
ClosesFull w [] = Unit {0}
ClosesFull w (e ∷ es) = (is_close e ≡ true → IsFull w) × ClosesFull (after w e) es
