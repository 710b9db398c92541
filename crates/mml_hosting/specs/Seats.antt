-- Seats, each of which serves one connection after another through its window. A window is what the sessions of a seat
-- have seen of the list of events, and the places of the events that were granted to them. A house is one run of a lab
-- that threads share.
use Rattle.std.specs.Prelude.{◌≡◌, ◌<◌, ℕ, ◌+◌, ◌==◌, if◌then◌else◌, Bool, true, false, List, [], ◌∷◌, ◌++◌, map, All, ⊤, Option, None, Some, vec_len, vec_capacity}
use Rattle.mml_lab.specs.{Labs.LabValue, declared.who.Who.Who}
use Rattle.mml_board.specs.declared.event.Event.{Event}
use Rattle.mml_lines.specs.Runs.{Chain}
use Rattle.mml_window.specs.Windows.{WindowValue, window}
use Rattle.mml_session.specs.{declared.session.Ending.Ending, declared.session.SessionEnd.SessionEnd, Records.Kept, Records.Stand, Records.stand, Records.EndedRecorded}
use Rattle.mml_hosting.specs.declared.seat.{ServedSession.ServedSession, Seat.Seat, SeatRecord.SeatRecord}
use Rattle.mml_lab.specs.declared.who.Who.TheVariants as who
use Rattle.mml_session.specs.declared.session.SessionEnd.TheVariants as end

-- The parameters of a house's contracts. The first three are its lab, the events from before it was opened, and what
-- the observer of the seat with each number had kept then. The others are functions. Two return the bytes that a
-- connection's reader has still to return, and those that were written to its writer. The last two return what an
-- observer has kept, and the session that a kept value shows
pub record Terms (K C R W : Type 0) : Type 0 where
  pub lab : LabValue
  pub begun : List Event
  pub given : ℕ → Option Kept
  pub remaining : R → Option (List ℕ)
  pub contents : W → Option (List ℕ)
  pub recorded : C → Option Kept
  pub shows : K → ServedSession R W

-- the terms with these parts
abbrev pub terms : {K C R W : Type 0} → LabValue → List Event → (ℕ → Option Kept) → (R → Option (List ℕ)) → (W → Option (List ℕ))
    → (C → Option Kept) → (K → ServedSession R W) → Terms K C R W
terms lab begun given remaining contents recorded shows = record {
  lab = lab;
  begun = begun;
  given = given;
  remaining = remaining;
  contents = contents;
  recorded = recorded;
  shows = shows;
}

-- The connection was served until its session ended, which changed the window from the state `a` to the state `b`. What
-- was recorded of the session under this number changed the observer from `a` to `b`
abbrev pub Leads : {K C R W : Type 0} → Terms K C R W → ℕ → ServedSession R W → Stand → Stand → Type 0
Leads t number s a b =
    EndedRecorded s.ending.end s.ending.who number t.lab a.window b.window (t.remaining s.came.value.0) (t.remaining s.reader)
    (t.contents s.came.value.1) (t.contents s.writer) a.kept b.kept

-- what the observer of the seat with number n has kept, if the seats are numbered from `first` on
abbrev pub kept_from : {C : Type 0} → (C → Option Kept) → ℕ → List C → ℕ → Option Kept
kept_from kept first [] n = None
kept_from kept first (c ∷ cs) n = if n == first then kept c else kept_from kept (first + 1) cs n

-- the observers of seats that are numbered from `n` on have kept what `given` has for each number
abbrev pub AreGiven : {C : Type 0} → (ℕ → Option Kept) → (C → Option Kept) → ℕ → List C → Type 0
AreGiven given kept n [] = ⊤
AreGiven given kept n (c ∷ cs) = (kept c ≡ given n) × AreGiven given kept (n + 1) cs

-- the sessions that were served in a seat, in order, computed from what is kept of each
abbrev pub sessions_of : {K C R W : Type 0} → (K → ServedSession R W) → SeatRecord K C → List (ServedSession R W)
sessions_of shows r = map shows r.sessions.items

-- the connections that came to a seat, in order, computed from what is kept of its sessions
abbrev pub came_to : {K C R W : Type 0} → (K → ServedSession R W) → SeatRecord K C → List (R × W)
came_to shows r = map (λ s. s.came.value) (sessions_of shows r)

-- whether a session ended by a bye while the teacher was known
abbrev bye_of : SessionEnd → Option Who → Bool
bye_of end.Bye (Some who.Teacher) = true
bye_of _ _ = false

-- whether the session was ended by the teacher's bye
abbrev pub is_teachers_bye : Ending → Bool
is_teachers_bye ending = bye_of ending.end ending.who

-- none of the sessions was ended by the teacher's bye
abbrev pub AreGoingOn : {R W : Type 0} → List (ServedSession R W) → Type 0
AreGoingOn ss = All (λ s. is_teachers_bye s.ending ≡ false) ss

-- the last session, and no earlier one, was ended by the teacher's bye
abbrev pub IsDismissed : {R W : Type 0} → List (ServedSession R W) → Type 0
IsDismissed {R} {W} ss =
    (before : List (ServedSession R W)) × (s : ServedSession R W) × (ss ≡ before ++ s ∷ []) × (is_teachers_bye s.ending ≡ true) × AreGoingOn before

-- The sessions of a seat changed its window from having seen the events from before the house to `w`. These sessions
-- changed the seat's observer from what the observer of this number had kept then to what it has kept now
abbrev pub Led : {K C R W : Type 0} → Terms K C R W → SeatRecord K C → WindowValue → Type 0
Led t r w = Chain (Leads t r.number) (stand (window t.begun []) (t.given r.number)) (sessions_of t.shows r) (stand w (t.recorded r.observer))

-- the seat's sessions have changed its window and its observer as `Led` states; at the desk, whose seat has the number
-- 1, it is noted whether the teacher's bye came
pub record IsSeat {H K C R W : Type 0} (t : Terms K C R W) (s : Seat H K C) : Type 0 where
  pub desk : s.is_desk ≡ (s.record.number == 1)
  pub led : Led t s.record s.window
  pub dismissed : s.is_dismissed ≡ true → IsDismissed (sessions_of t.shows s.record)
  pub going_on : s.is_desk ≡ true → s.is_dismissed ≡ false → AreGoingOn (sessions_of t.shows s.record)

-- one more connection may be served in the seat, and there is room for its record
pub record IsReady {H K C R W : Type 0} (t : Terms K C R W) (s : Seat H K C) : Type 0 where
  pub seat : IsSeat t s
  pub going_on : s.is_dismissed ≡ false
  pub room : vec_len s.record.sessions < vec_capacity s.record.sessions

-- the new seat is valid, and has the number and the connections of the old one, and this connection after them
pub record ServesIn {H K C R W : Type 0} (t : Terms K C R W) (old : Seat H K C) (ends : R × W) (new : Seat H K C) : Type 0 where
  pub seat : IsSeat t new
  pub came : came_to t.shows new.record ≡ came_to t.shows old.record ++ ends ∷ []
  pub number : new.record.number ≡ old.record.number
