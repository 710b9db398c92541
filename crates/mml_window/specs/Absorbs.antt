-- The effect of absorbing (applying) an event on a copy of the published data. A house publishes its events and board
-- in two copies: readers see one of them while the writer changes the other.
use Rattle.std.specs.Prelude.{ℕ, ◌&&◌, nat_lt, if◌then◌else◌, List, [], ◌∷◌, ◌++◌, length}
use Rattle.mml_board.specs.{declared.event.Event.Event, World.World, Events.can_absorb, Events.after}
use Rattle.mml_window.specs.declared.published.Common.{Common}

-- what both copies of the published data have in common: a board, the most events that they have room for, and the
-- events that led to the board
abbrev pub common : World → ℕ → List Event → Common
common board limit events = record { board = board; limit = limit; events = events }

-- the copy with the event applied and appended, or the copy as it was if there is no room or the event isn't possible
abbrev pub absorbs : Common → Event → Common
absorbs s e = if (nat_lt (length s.events) s.limit && can_absorb s.board e) then common (after s.board e) s.limit (s.events ++ e ∷ []) else s
