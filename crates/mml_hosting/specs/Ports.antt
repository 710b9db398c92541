-- Connections that came to a port.
use Rattle.std.specs.{Prelude.◌≡◌, Prelude.ℕ, Prelude.List, Prelude.◌++◌, Prelude.map, Prelude.flat_map, Prelude.length, Prelude.All, Prelude.Option, List.sum_by}
use Rattle.mml_window.specs.Windows.{WindowValue}
use Rattle.mml_serving.specs.Arriving.{Takes}
use Rattle.mml_hosting.specs.{declared.seat.Seat.Seat, declared.seat.SeatRecord.SeatRecord, Seats.IsSeat, Seats.Terms, Seats.came_to, Away.IsTurnedAway}

-- both lists have the same elements, each the same number of times, in any order
abbrev pub HaveSame : {A : Type 0} → List A → List A → Type 0
HaveSame {A} xs ys = (h : A → ℕ) → sum_by h xs ≡ sum_by h ys

-- `connections` came: they are the first of those to come. The lists `old` and `connections` together have the same
-- elements as `new` and `turned` together; `turned` are the connections that were turned away
pub record Attends {C : Type 0} (to_come : Option (List C)) (old new : List C) : Type 0 where
  pub connections : List C
  pub turned : List C
  pub left : Option (List C)
  pub came : Takes to_come left connections
  pub each : HaveSame (old ++ connections) (new ++ turned)

-- the record of each seat
abbrev pub records_of : {H K C : Type 0} → List (Seat H K C) → List (SeatRecord K C)
records_of ss = map (λ s. s.record) ss

-- the window of each seat
abbrev pub windows_of : {H K C : Type 0} → List (Seat H K C) → List WindowValue
windows_of ss = map (λ s. s.window) ss

-- the number of the seat in each of these records
abbrev pub numbers_of : {K C : Type 0} → List (SeatRecord K C) → List ℕ
numbers_of rs = map (λ r. r.number) rs

-- the seats and their numbers are as before. The old connections and those that came were served in them, each once,
-- except for those that were turned away
pub record ServesPort {H K C R W : Type 0} (t : Terms K C R W) (to_come : Option (List (R × W))) (old new : List (Seat H K C)) : Type 0 where
  pub seats : All (IsSeat t) new
  pub count : length new ≡ length old
  pub numbers : HaveSame (numbers_of (records_of old)) (numbers_of (records_of new))
  pub attends : Attends to_come (flat_map (came_to t.shows) (records_of old)) (flat_map (came_to t.shows) (records_of new))

-- each connection that came, and wasn't served in one of these seats, was turned away
abbrev pub TurnsOthersAway : {H K C R W : Type 0} → Terms K C R W → (W → Type 0) → Option (List (R × W)) → List (Seat H K C) → List (Seat H K C) → Type 0
TurnsOthersAway t IsHungUp to_come old new =
    (attends : Attends to_come (flat_map (came_to t.shows) (records_of old)) (flat_map (came_to t.shows) (records_of new)))
    × All (IsTurnedAway t.contents IsHungUp) attends.turned
