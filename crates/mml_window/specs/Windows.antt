-- The state of a window, as contracts describe it. The place of an event is its number in the list of events, from 1. A
-- window is one session's view of the published events and board. A list of events is legal if the rules allow each
-- event after the earlier ones.
use Rattle.std.specs.Prelude.{◌≡◌, ◌≤◌, ◌*◌, ◌-◌, ℕ, true, List, length, Option, None}
use mathlib.Core.List.{IsPrefix}
use Rattle.mml_lab.specs.Labs.{LabValue, IsLab}
use Rattle.mml_board.specs.{declared.event.Event.Event, Lists.is_legal_in}
use Rattle.mml_policy.specs.declared.refusal.Refusal.{Refusal}
use Rattle.mml_window.specs.Climbing.{Climbs}

-- The events that the window has seen, the places that it was granted, why its last act was refused, if it was, and how
-- many of its acts were refused because the journal was halted. Last, a sum over these refusals: how many more events
-- the lab allowed then
pub record WindowValue : Type 0 where
  pub seen : List Event
  pub places : List ℕ
  pub refused : Option Refusal
  pub halts : ℕ
  pub spare : ℕ

-- The window that has seen these events and was granted these places. `refused` is why its last act was refused, if it
-- was. `halts` is how many of its acts were refused because the journal was halted, and `spare` is the sum over them
abbrev pub window_with : List Event → List ℕ → Option Refusal → ℕ → ℕ → WindowValue
window_with seen places refused halts spare = record { seen = seen; places = places; refused = refused; halts = halts; spare = spare }

-- the window that has seen these events and was granted these places, and none of whose acts was refused
abbrev pub window : List Event → List ℕ → WindowValue
window seen places = window_with seen places None 0 0

-- the window has seen these events, and was granted these places
abbrev pub HasSeen : List Event → List ℕ → WindowValue → Type 0
HasSeen seen places w = (w.seen ≡ seen) × (w.places ≡ places)

-- at each of `halts` refusals, the lab allowed at least as many more events as it does after n events; `spare` is the
-- sum of these numbers
pub record AreSpared (limit n halts spare : ℕ) : Type 0 where
  pub least : halts * (limit - n) ≤ spare

-- The window has seen a legal list of the lab's events. Its places are in rising order, and at most the length of this
-- list. At each refusal because the journal was halted, the lab allowed at least as many more events as it does now
pub record IsWindow (lab : LabValue) (w : WindowValue) : Type 0 where
  pub lawful : IsLab lab
  pub legal : is_legal_in lab w.seen ≡ true
  pub few : length w.seen ≤ lab.events
  pub climbs : Climbs 0 w.places (length w.seen)
  pub spares : AreSpared lab.events (length w.seen) w.halts w.spare

-- the window has seen a legal list, which begins with all events that it had seen before; nothing was granted or
-- refused
pub record SeesOn (lab : LabValue) (old new : WindowValue) : Type 0 where
  pub begins : IsPrefix old.seen new.seen
  pub legal : is_legal_in lab new.seen ≡ true
  pub places : new.places ≡ old.places
  pub refused : new.refused ≡ old.refused
  pub halts : new.halts ≡ old.halts
  pub spare : new.spare ≡ old.spare
