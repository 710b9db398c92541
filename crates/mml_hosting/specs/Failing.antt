-- What holds of houses with two ports that fail. The book of a house has its granted events, the board after them and
-- their journal. The places of a window are the numbers of the events that it was granted. The places went astray if
-- those of all windows aren't those of the book's events, each once. A house is one run of a lab that threads share.
-- The log of a house is its result at the end.
use Rattle.std.specs.{Prelude.◌≡◌, Prelude.◌≤◌, Prelude.ℕ, Prelude.◌+◌, Prelude.true, Prelude.false, Prelude.List, Prelude.[], Prelude.◌++◌, Prelude.flat_map, Prelude.length, Prelude.All, Prelude.Option, List.AllZip, List.list_all, List.range_with_len, Io.KnownBytes.Appends}
use mathlib.Core.List.{IsPrefix}
use Rattle.mml_lab.specs.Labs.{LabValue}
use Rattle.mml_board.specs.Lists.{world_in}
use Rattle.mml_window.specs.{declared.log.Log.Log, Books.BookValue, Tallies.IsEachOnceFrom, Tallies.told_of, Windows.WindowValue}
use Rattle.mml_serving.specs.{Closings.IsCutShort, Closings.done_line, Endings.LeavesBook, Endings.WentAstrayFrom}
use Rattle.mml_hosting.specs.declared.{seat.Seat.Seat, seat.SeatRecord.SeatRecord, hosted.Hosted.Hosted, hosted.HostFault.HostFault}
use Rattle.mml_hosting.specs.{Hosting.HostsFrom, Ports.Attends, Ports.HaveSame, Ports.numbers_of, Seats.AreGoingOn, Seats.IsDismissed, Seats.Led, Seats.Terms, Seats.came_to, Seats.sessions_of}
use Rattle.mml_serving.specs.declared.serving.ServeFault.TheVariants as why
use Rattle.mml_hosting.specs.declared.hosted.HostFault.TheVariants as fault

-- Both ports were served through these windows. About the seats and their connections, `ServesBoth` states what
-- `HostsFrom` states
pub record ServesBoth {K C R W : Type 0} (t : Terms K C R W) (to_desk to_come : Option (List (R × W))) (at_desk others : List (SeatRecord K C))
    (desk_windows windows : List WindowValue) : Type 0 where
  pub at_least : All (λ w. IsPrefix t.begun w.seen) (desk_windows ++ windows)
  pub numbers : HaveSame (range_with_len 1 t.lab.sessions) (numbers_of (at_desk ++ others))
  pub led_at_desk : AllZip (Led t) at_desk desk_windows
  pub led_elsewhere : AllZip (Led t) others windows
  pub one : length at_desk ≡ 1
  pub came_to_desk : Attends to_desk [] (flat_map (came_to t.shows) at_desk)
  pub came : Attends to_come [] (flat_map (came_to t.shows) others)

-- both ports were served, and `Holds` relates the record of the desk's seat to all windows; a house that has no log
-- ends like this
pub record EndsUnlogged {K C R W : Type 0} (t : Terms K C R W) (to_desk to_come : Option (List (R × W)))
    (Holds : List (SeatRecord K C) → List WindowValue → Type 0) : Type 0 where
  pub at_desk : List (SeatRecord K C)
  pub others : List (SeatRecord K C)
  pub desk_windows : List WindowValue
  pub windows : List WindowValue
  pub serves : ServesBoth t to_desk to_come at_desk others desk_windows windows
  pub holds : Holds at_desk (desk_windows ++ windows)

-- No session at the desk was ended by the teacher's bye. The house ended with a book (`LeavesBook`), which begins with
-- the events that came before
abbrev pub EndsUndismissed : {S K C R W : Type 0} → Terms K C R W → (S → Option (List ℕ)) → Option (List (R × W)) → Option (List (R × W)) → Type 0
EndsUndismissed {S} t sink to_desk to_come =
    EndsUnlogged t to_desk to_come (λ at_desk windows. All (λ r. AreGoingOn (sessions_of t.shows r)) at_desk
    × (left : BookValue S) × LeavesBook t.lab sink windows left × IsPrefix t.begun left.events)

-- The teacher's bye ended the last session at the desk, and the house ended with a book, which begins with the events
-- that came before. But the places of the windows went astray (`WentAstrayFrom`)
abbrev pub EndsAstray : {S K C R W : Type 0} → Terms K C R W → (S → Option (List ℕ)) → Option (List (R × W)) → Option (List (R × W)) → Type 0
EndsAstray {S} t sink to_desk to_come =
    EndsUnlogged t to_desk to_come (λ at_desk windows. All (λ r. IsDismissed (sessions_of t.shows r)) at_desk
    × (astray : WentAstrayFrom (length t.begun) t.lab sink windows) × IsPrefix t.begun astray.left.events)

-- Why there is no log after the ports have ended. Memory ran out; or not every seat of the desk was dismissed; or the
-- places of the windows aren't those of the events after the first `first`, each once, although there are at most as many
-- places as these events
abbrev pub EndsWithoutLog : {S H K C : Type 0} → ℕ → LabValue → (S → Option (List ℕ)) → List (Seat H K C) → List WindowValue → HostFault → Type 0
EndsWithoutLog {S} first lab sink desks windows fault.Memory = Unit {0}
EndsWithoutLog {S} first lab sink desks windows fault.Undismissed =
    (list_all (λ s. s.is_dismissed) desks ≡ false) × (left : BookValue S) × LeavesBook lab sink windows left
EndsWithoutLog {S} first lab sink desks windows fault.Astray =
    All (λ s. s.is_dismissed ≡ true) desks × (left : BookValue S) × LeavesBook lab sink windows left
    × (first ≤ length left.events → ¬ (IsEachOnceFrom first (length left.events) (told_of windows)))
    × (length (told_of windows) + first ≤ length left.events)
EndsWithoutLog {S} first lab sink desks windows _ = ⊥

-- why there is no log: memory ran out, the teacher didn't dismiss the house, or its windows' places went astray
abbrev pub HostsEarly : {S K C R W : Type 0} → Terms K C R W → (S → Option (List ℕ)) → Option (List (R × W)) → Option (List (R × W)) → HostFault → Type 0
HostsEarly t sink to_desk to_come fault.Memory = Unit {0}
HostsEarly t sink to_desk to_come fault.Undismissed = EndsUndismissed t sink to_desk to_come
HostsEarly t sink to_desk to_come fault.Astray = EndsAstray t sink to_desk to_come
HostsEarly t sink to_desk to_come _ = ⊥

-- the house ended as `HostsFrom` states, and `Holds` is true of its log
pub record HostsLogged {S K C R W : Type 0} (t : Terms K C R W) (sink : S → Option (List ℕ)) (to_desk to_come : Option (List (R × W)))
    (Holds : Log S → Type 0) : Type 0 where
  pub house : Hosted S K C
  pub hosts : HostsFrom t.begun t.given t.lab sink t.remaining t.contents t.recorded t.shows to_desk to_come house
  pub holds : Holds house.log

-- What a failed house has written, and what holds of it. Nothing is written, except for a beginning of the last line if
-- the writer failed. If the journal is halted, or the writer failed, the house ended as `HostsFrom` states
abbrev pub HostsBadly : {S K C R W : Type 0} → Terms K C R W → (S → Option (List ℕ)) → Option (List (R × W)) → Option (List (R × W)) → Option (List ℕ)
    → Option (List ℕ) → HostFault → Type 0
HostsBadly t sink to_desk to_come wrote wrote' fault.Memory = Appends wrote wrote' []
HostsBadly t sink to_desk to_come wrote wrote' fault.Place = ⊥
HostsBadly t sink to_desk to_come wrote wrote' fault.Undismissed = EndsUndismissed t sink to_desk to_come × Appends wrote wrote' []
HostsBadly t sink to_desk to_come wrote wrote' fault.Astray = EndsAstray t sink to_desk to_come × Appends wrote wrote' []
HostsBadly t sink to_desk to_come wrote wrote' fault.Halted =
    HostsLogged t sink to_desk to_come (λ log. log.halted ≡ true) × Appends wrote wrote' []
HostsBadly t sink to_desk to_come wrote wrote' fault.Write =
    HostsLogged t sink to_desk to_come (λ log. (log.halted ≡ false)
    × IsCutShort wrote wrote' (done_line (length log.events) (world_in t.lab log.events).number) why.Write)
