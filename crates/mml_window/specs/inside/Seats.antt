-- The seats, of which windows are made. The place of an event is its number in the list of events, from 1. A window is
-- one session's view of the published events and board.
use Rattle.std.specs.{Prelude.◌≡◌, Prelude.◌≤◌, Prelude.[], Prelude.vec_capacity, Arc.arc_value}
use Rattle.mml_lab.specs.Labs.{LabValue}
use Rattle.mml_window.specs.declared.window.Seat.{Seat}

-- the seat has the lab, no place yet, and room for the places of as many events as the lab allows
abbrev pub IsSeat : LabValue → Seat → Type 0
IsSeat lab s = (arc_value s.lab ≡ lab) × (s.places.items ≡ []) × (lab.events ≤ vec_capacity s.places)
