-- Rounds, counted by the nodes that wait for their turn. A node is privileged if some rule is enabled there. A round is
-- a list of events in which each node has its turn: at some point it isn't privileged, or a close applies its move.
use Rattle.std.specs.{Prelude.ℕ, Prelude.◌+◌, Prelude.◌==◌, Prelude.if◌then◌else◌, Prelude.List, Prelude.[], Prelude.◌∷◌, Ordering.nat_cmp, FinSet.FinSet}
use Rattle.mml_ids.specs.Sets.{those_below}
use Rattle.mml_rules.specs.Rules.{is_privileged}
use Rattle.mml_board.specs.{declared.event.Event.Event, World.World, World.size, World.configuration, Events.chosen_nodes, Events.after}
use Rattle.mml_convergence.specs.Moves.{is_close}
use Rattle.std.specs.FinSet as set

-- the privileged nodes, which wait when a round begins
unfoldable pub privileged_nodes : World → FinSet nat_cmp
privileged_nodes w = those_below (size w) (is_privileged (configuration w))

-- the nodes whose moves the event applies
abbrev pub moved_nodes : World → Event → FinSet nat_cmp
moved_nodes w e = if is_close e then chosen_nodes w else set.empty

-- the waiting nodes that still wait after an event: it applies no move of theirs, and they are privileged after it
abbrev pub still_waiting : World → FinSet nat_cmp → Event → FinSet nat_cmp
still_waiting w waiting e = set.intersection (set.difference waiting (moved_nodes w e)) (privileged_nodes (after w e))

-- how many rounds end in the events, if these nodes wait in the current round
abbrev pub count_rounds : World → FinSet nat_cmp → List Event → ℕ
count_rounds w waiting [] = 0
count_rounds w waiting (e ∷ es) =
    if set.len (still_waiting w waiting e) == 0 then 1 + count_rounds (after w e) (privileged_nodes (after w e)) es
    else count_rounds (after w e) (still_waiting w waiting e) es
