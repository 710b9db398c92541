-- A house through whose windows one connection after another was served. A house is one run of a lab that threads
-- share. A window is what the sessions of a seat have seen of the list of events, and the places of the events that
-- were granted to them. The place of an event is its number in this list, from 1. The log of a house is its result at
-- the end.
use Rattle.std.specs.{Prelude.◌≡◌, Prelude.◌==◌, Prelude.ℕ, Prelude.false, Prelude.List, Prelude.[], Prelude.◌++◌, Prelude.flat_map, Prelude.length, Prelude.All, Prelude.Option, List.AllZip, List.range_with_len}
use Rattle.mml_lab.specs.Labs.{LabValue}
use Rattle.mml_window.specs.{Windows.WindowValue, Windows.window, Logs.IsLogFrom}
use mathlib.Core.List.{IsPrefix}
use Rattle.mml_board.specs.declared.event.Event.{Event}
use Rattle.mml_hosting.specs.{declared.seat.ServedSession.ServedSession, declared.seat.Seat.Seat, declared.hosted.Hosted.Hosted, Ports.Attends, Ports.HaveSame, Ports.numbers_of}
use Rattle.mml_session.specs.Records.{Kept}
use Rattle.mml_hosting.specs.Seats.{IsDismissed, Led, came_to, sessions_of, terms}

-- nobody was served in the seat so far, and its observer is as at the beginning; the desk's seat has the number 1
pub record IsUnused {H K C : Type 0} (begun : List Event) (given : ℕ → Option Kept) (recorded : C → Option Kept) (s : Seat H K C) : Type 0 where
  pub desk : s.is_desk ≡ (s.record.number == 1)
  pub unseen : s.window ≡ window begun []
  pub observer : recorded s.record.observer ≡ given s.record.number
  pub sessions : s.record.sessions.items ≡ []
  pub dismissed : s.is_dismissed ≡ false

-- The house has the log of one legal list of events, which begins with the events from before it was opened. The places
-- of the other events are those that all windows were given, each once. Each window has seen a beginning of the list,
-- and at least the events from before. The seats have the numbers from 1 to the number of the lab's sessions, each
-- once. The sessions of each seat, in order, changed its window and its observer to their present states. At the desk,
-- the teacher's bye ended the last session, and no earlier one. The connections that came to a port were served, each
-- once, or turned away
pub record HostsFrom {S K C R W : Type 0} (begun : List Event) (given : ℕ → Option Kept) (lab : LabValue) (sink : S → Option (List ℕ))
    (remaining : R → Option (List ℕ)) (contents : W → Option (List ℕ)) (recorded : C → Option Kept) (shows : K → ServedSession R W)
    (to_desk to_come : Option (List (R × W))) (house : Hosted S K C) : Type 0 where
  pub desk_windows : List WindowValue
  pub windows : List WindowValue
  pub begins : IsPrefix begun house.log.events
  pub at_least : All (λ w. IsPrefix begun w.seen) (desk_windows ++ windows)
  pub kept : IsLogFrom (length begun) lab sink (desk_windows ++ windows) house.log
  pub numbers : HaveSame (range_with_len 1 lab.sessions) (numbers_of (house.at_desk.items ++ house.others.items))
  pub at_desk : AllZip (Led (terms lab begun given remaining contents recorded shows)) house.at_desk.items desk_windows
  pub elsewhere : AllZip (Led (terms lab begun given remaining contents recorded shows)) house.others.items windows
  pub one : length house.at_desk.items ≡ 1
  pub dismissed : All (λ r. IsDismissed (sessions_of shows r)) house.at_desk.items
  pub came_to_desk : Attends to_desk [] (flat_map (came_to shows) house.at_desk.items)
  pub came : Attends to_come [] (flat_map (came_to shows) house.others.items)

-- the house was opened before any event, and served its connections as `HostsFrom` states
abbrev pub Hosts : {S K C R W : Type 0} → (ℕ → Option Kept) → LabValue → (S → Option (List ℕ)) → (R → Option (List ℕ)) → (W → Option (List ℕ))
    → (C → Option Kept) → (K → ServedSession R W) → Option (List (R × W)) → Option (List (R × W)) → Hosted S K C → Type 0
Hosts given lab sink remaining contents recorded shows to_desk to_come house = HostsFrom [] given lab sink remaining contents recorded shows to_desk to_come house
