-- The effects of events, as logical statements.
use Rattle.std.specs.Prelude.{◌≡◌, ℕ, ◌⊎◌, Bool, true, false}
use Rattle.mml_board.specs.declared.event.Event.{Event}
use Rattle.mml_board.specs.declared.event.Event.TheVariants as event

-- the event leads to a new configuration
abbrev pub makes_configuration : Event → Bool
makes_configuration (event.Grant s i rule) = false
makes_configuration (event.Release i) = false
makes_configuration event.Close = true
makes_configuration (event.Fault i registers) = true
makes_configuration (event.Link a b) = true
makes_configuration (event.Cut a b) = true

-- i and j are a and b, in either order
abbrev pub AreEnds : ℕ → ℕ → ℕ → ℕ → Type 0
AreEnds a b i j = ((i ≡ a) × (j ≡ b)) ⊎ ((i ≡ b) × (j ≡ a))
