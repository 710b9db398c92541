-- The counts of a run, from its list of events. The place of an event is its number in the list of events, from 1. A
-- grant chooses a move for a node, a release drops it, and a close applies all chosen moves at once. A fault sets a
-- node's registers, a link joins two nodes, and a cut removes a link.
use Rattle.std.specs.Prelude.{ℕ, ◌+◌, Bool, true, false, not, nat_lt, if◌then◌else◌, List, [], ◌∷◌, drop, count_by}
use Rattle.mml_board.specs.declared.event.Event.{Event}
use Rattle.mml_convergence.specs.{Runs.is_of_step, Moves.is_close}
use Rattle.mml_tally.specs.{declared.fate.Fate.Fate, declared.granted_move.Move.Move, declared.run.Run.Run, Moves.moves, Marks.is_applied}
use Rattle.mml_board.specs.declared.event.Event.TheVariants as event
use Rattle.mml_tally.specs.declared.fate.Fate.TheVariants as fate

-- whether the event is a fault
abbrev pub is_fault : Event → Bool
is_fault (event.Fault i registers) = true
is_fault _ = false

-- whether the event is a link
abbrev pub is_link : Event → Bool
is_link (event.Link a b) = true
is_link _ = false

-- whether the event is a cut
abbrev pub is_cut : Event → Bool
is_cut (event.Cut a b) = true
is_cut _ = false

-- whether the event is a fault, a link or a cut
abbrev pub is_change : Event → Bool
is_change e = not (is_of_step e)

-- the place of the last fault, link or cut; `last` is this place before the events es, the first of which has place q
abbrev pub last_change : ℕ → ℕ → List Event → ℕ
last_change last q [] = last
last_change last q (e ∷ es) = last_change (if is_change e then q else last) (q + 1) es

-- whether the fate is that a close after place k applied a move
abbrev pub is_fate_after : ℕ → Fate → Bool
is_fate_after k (fate.Applied p) = nat_lt k p
is_fate_after k _ = false

-- whether a close after place k applied the move
abbrev pub is_applied_after : ℕ → Move → Bool
is_applied_after k m = is_fate_after k m.fate

-- the counts of a run whose last fault, link or cut has the place `since`, which is 0 if there is none
abbrev pub run_since : ℕ → List Event → Run
run_since since es = record {
  closes = count_by is_close es;
  faults = count_by is_fault es;
  links = count_by is_link es;
  cuts = count_by is_cut es;
  moves = count_by is_applied (moves es);
  moves_since = count_by (is_applied_after since) (moves es);
  closes_since = count_by is_close (drop since es);
}

-- the counts of a run
abbrev pub run_of : List Event → Run
run_of es = run_since (last_change 0 1 es) es
