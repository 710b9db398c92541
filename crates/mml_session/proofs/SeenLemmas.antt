-- After a session, its window has seen all that it had seen before, and perhaps more. What a window has seen is a
-- beginning of the list of events. A talk has the answered lines of a session, with their replies.
use Rattle.std.proofs.Common.{ℕ, List, Option}
use mathlib.Core.List.{IsPrefix}
use Rattle.mml_lab.specs.Labs.{LabValue}
use Rattle.mml_window.specs.Windows.{WindowValue}
use Rattle.mml_window.proofs.PrefixLemmas.{prefix_self, prefix_trans}
use Rattle.mml_session.specs.{declared.session.SessionEnd.SessionEnd, Turns.Standing, Ends.Ended, Talks.LineTurn, Talks.Talk, Talks.nobody_known}
use Rattle.mml_session.proofs.TalkLemmas.{talk_seen, turn_seen}
use Rattle.mml_session.specs.declared.session.SessionEnd.TheVariants as end

abbrev pub Sees : WindowValue → WindowValue → Type 0
Sees old new = IsPrefix old.seen new.seen

last_seen : (lab : LabValue) (old : WindowValue) (t : Talk lab (nobody_known old)) {after : Standing} (s : LineTurn lab t.end after) → Sees old after.window
last_seen lab old t {after} s = prefix_trans old.seen t.end.window.seen after.window.seen (talk_seen lab (nobody_known old) t) (turn_seen lab t.end after s)

-- after each session, however it ended, the window has seen what it had seen before, and perhaps more
pub ended_seen : (e : SessionEnd) (lab : LabValue) (old new : WindowValue) (input left wrote wrote' : Option (List ℕ))
    → Ended e lab old new input left wrote wrote' → Sees old new
ended_seen end.Bye lab old new input left wrote wrote' h = rw (← h.1.stands) (last_seen lab old h.1.talk h.1.last)
ended_seen end.WriteFault lab old new input left wrote wrote' h = rw (← h.2.stands) (last_seen lab old h.2.talk h.2.last)
ended_seen end.Memory lab old new input left wrote wrote' h = rw h.0 (prefix_self old.seen)
ended_seen _ lab old new input left wrote wrote' h = rw (← h.1.stands) (talk_seen lab (nobody_known old) h.1.talk)
