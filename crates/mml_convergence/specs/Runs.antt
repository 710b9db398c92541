-- Runs without faults, links and cuts.
use Rattle.std.specs.{Prelude.ℕ, Prelude.◌+◌, Prelude.Bool, Prelude.not, Prelude.◌||◌, Prelude.List, Prelude.[], Prelude.◌∷◌, Prelude.if◌then◌else◌, Bool.beq}
use Rattle.mml_board.specs.{declared.event.Event.Event, World.World, World.configuration, Events.after, Meaning.makes_configuration}
use Rattle.mml_convergence.specs.Moves.{is_close}

-- the event is a grant, a release or a close: it leads to no new configuration, or is a close
abbrev pub is_of_step : Event → Bool
is_of_step e = not (makes_configuration e) || is_close e

-- how often the register m of node i changes over these events
abbrev pub changes_of_m : ℕ → World → List Event → ℕ
changes_of_m i w [] = 0
changes_of_m i w (e ∷ es) = (if beq ((configuration w).m i) ((configuration (after w e)).m i) then 0 else 1) + changes_of_m i (after w e) es
