-- The moves that were granted, and what happened to each, found in the list of events alone. The
-- place of an event is its number in the list of events, from 1. A grant chooses a move for a node, a release drops it,
-- and a close applies all chosen moves at once. A fault sets a node's registers, a link joins two nodes, and a cut
-- removes a link.
use Rattle.std.specs.Prelude.{ℕ, ◌+◌, ◌==◌, if◌then◌else◌, List, [], ◌∷◌, Option, None, Some, unwrap_or}
use Rattle.mml_rules.specs.Rules.{kind_of}
use Rattle.mml_board.specs.declared.event.Event.{Event}
use Rattle.mml_tally.specs.declared.{fate.Fate.Fate, granted_move.Move.Move}
use Rattle.mml_board.specs.declared.event.Event.TheVariants as event
use Rattle.mml_tally.specs.declared.fate.Fate.TheVariants as fate

-- what the event at place q does to the move that is chosen at node i, or None if the move stays chosen. A close
-- applies the move, a release of i releases it, and a fault, a link or a cut drops it
abbrev pub ended_by : ℕ → ℕ → Event → Option Fate
ended_by i q (event.Grant s j rule) = None
ended_by i q (event.Release j) = if j == i then Some fate.Released else None
ended_by i q event.Close = Some (fate.Applied q)
ended_by i q (event.Fault j registers) = Some fate.Dropped
ended_by i q (event.Link a b) = Some fate.Dropped
ended_by i q (event.Cut a b) = Some fate.Dropped

-- what the first event that ends a move at node i does to it, or `Chosen` if none ends it. The events are those after
-- the move's grant, and the first of them has place q
abbrev pub fate_of : ℕ → ℕ → List Event → Fate
fate_of i q [] = fate.Chosen
fate_of i q (e ∷ es) = unwrap_or (ended_by i q e) (fate_of i (q + 1) es)

-- the moves that these events grant; the first event has place q
abbrev pub moves_from : ℕ → List Event → List Move
moves_from q [] = []
moves_from q (event.Grant s i rule ∷ es) =
    record { place = q; who = s; node = i; kind = kind_of rule; fate = fate_of i (q + 1) es } ∷ moves_from (q + 1) es
moves_from q (_ ∷ es) = moves_from (q + 1) es

-- the moves that a list of events grants, in order
abbrev pub moves : List Event → List Move
moves es = moves_from 1 es
