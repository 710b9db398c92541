-- What the sessions of a class answered. A class is a house, that is, one run of a lab that threads share. A seat of it
-- serves one connection after another, each for a session, through a window: what these sessions have seen of the list
-- of events, and the places of the events that were granted to them.
use Rattle.std.specs.Prelude.{List, []}
use Rattle.mml_lines.specs.Runs.{Runs}
use Rattle.mml_window.specs.Windows.{WindowValue, window}
use Rattle.mml_hosting.specs.{declared.seat.SeatRecord.SeatRecord, declared.seat.ServedSession.ServedSession, Seats.Terms, Seats.sessions_of}
use Rattle.mml_laws.specs.Served.{Answered, HasSaid}

-- a session that a class served had these answered lines, and changed a window from `old` to `new`
abbrev pub HasAnswers : {K C R W : Type 0} → Terms K C R W → WindowValue → ServedSession R W → List Answered → WindowValue → Type 0
HasAnswers t old s said new =
    HasSaid s.ending.end t.lab old new (t.remaining s.came.value.0) (t.remaining s.reader) (t.contents s.came.value.1) (t.contents s.writer) said

-- the sessions of a seat, one after another, had these answered lines, and changed its window to w from having seen the
-- events from before the house
abbrev pub HaveAnswers : {K C R W : Type 0} → Terms K C R W → SeatRecord K C → List (List Answered) → WindowValue → Type 0
HaveAnswers t r sessions w = Runs (HasAnswers t) (window t.begun []) (sessions_of t.shows r) sessions w
