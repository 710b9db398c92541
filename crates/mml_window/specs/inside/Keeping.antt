-- The part of an answer that a window keeps. The place of an event is its number in the list of events, from 1. An act
-- is a request for an event. A window is one session's view of the published events and board.
use Rattle.std.specs.Prelude.{◌≡◌, ◌≤◌, ◌+◌, ℕ, Bool, true, false, List, [], ◌∷◌, ◌++◌, length, None, Some}
use Rattle.mml_lab.specs.Labs.{LabValue}
use Rattle.mml_board.specs.declared.event.Event.{Event}
use Rattle.mml_policy.specs.declared.refusal.Refusal.TheVariants.{Journal}
use Rattle.mml_window.specs.declared.answer.Answer.{Answer, TheVariants.Granted, TheVariants.Denied, TheVariants.Refused}
use Rattle.mml_window.specs.{Books.BookValue, Windows.WindowValue, Windows.window_with}

-- the place in a grant's answer is the number of all events, is one more than the number of events seen, and is within
-- the lab's limit
abbrev pub IsNextPlace : LabValue → List Event → List Event → Answer → Type 0
IsNextPlace lab seen events (Denied d) = Unit {0}
IsNextPlace lab seen events (Refused why) = Unit {0}
IsNextPlace lab seen events (Granted place number done) = (length events ≡ place) × (place ≡ length seen + 1) × (place ≤ lab.events)

-- the window after an answer: it keeps why the act was refused, or, after a grant, the place of the event, which it has
-- then seen as the last one. A refusal because the journal is halted isn't counted yet
abbrev pub Keeps : List Event → WindowValue → Answer → WindowValue → Type 0
Keeps events old (Denied d) new = new ≡ window_with old.seen old.places None old.halts old.spare
Keeps events old (Refused why) new = new ≡ window_with old.seen old.places (Some why) old.halts old.spare
Keeps events old (Granted place number done) new =
    (front : List Event) × (e : Event) × (events ≡ front ++ e ∷ [])
    × (new ≡ window_with (old.seen ++ e ∷ []) (old.places ++ place ∷ []) None old.halts old.spare)

-- if the answer is the refusal `Journal`, the journal is halted, and the window has seen as many events as the book has;
-- if it is a grant, the journal isn't halted
abbrev pub IsHaltedAfter : {S : Type 0} → Answer → BookValue S → WindowValue → Type 0
IsHaltedAfter (Refused Journal) b w = (b.halted ≡ true) × (length w.seen ≡ length b.events)
IsHaltedAfter (Granted place number done) b w = b.halted ≡ false
IsHaltedAfter _ b w = Unit {0}

-- the window after an answer was counted: it has one more refusal because the journal is halted, if this is the answer.
-- `spare` is how many more events the lab allows. A window with such a refusal is granted nothing
abbrev pub Counts : ℕ → WindowValue → Answer → WindowValue → Type 0
Counts spare old (Refused Journal) new = new ≡ window_with old.seen old.places old.refused (old.halts + 1) (old.spare + spare)
Counts spare old (Granted place number done) new = (new ≡ old) × (old.halts ≡ 0)
Counts spare old _ new = new ≡ old

-- how many events the answer grants
abbrev pub granted_by : Answer → ℕ
granted_by (Granted place number done) = 1
granted_by _ = 0
