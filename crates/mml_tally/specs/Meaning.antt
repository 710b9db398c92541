-- Definitions with which the laws describe what the tally counts. The place of an event is its number in the list of
-- events, from 1. A grant chooses a move for a node, a release drops it, and a close applies all chosen moves at once.
-- A fault sets a node's registers, a link joins two nodes, and a cut removes a link.
use Rattle.std.specs.{Prelude.◌≡◌, Prelude.ℕ, Prelude.◌+◌, Prelude.◌==◌, Prelude.Bool, Prelude.true, Prelude.false, Prelude.not, Prelude.List, Prelude.◌∷◌, Prelude.◌++◌, Prelude.length, List.list_all}
use Rattle.mml_board.specs.declared.event.Event.{Event}
use Rattle.mml_tally.specs.declared.{fate.Fate.Fate, granted_move.Move.Move, marks.ByRule.ByRule}
use Rattle.mml_board.specs.declared.event.Event.TheVariants as event
use Rattle.mml_tally.specs.declared.fate.Fate.TheVariants as fate

-- whether the event doesn't end the move that is chosen at node i: it is neither a release of i, nor a close, fault,
-- link or cut
abbrev pub leaves : ℕ → Event → Bool
leaves i (event.Grant s j rule) = true
leaves i (event.Release j) = not (j == i)
leaves i event.Close = false
leaves i (event.Fault j registers) = false
leaves i (event.Link a b) = false
leaves i (event.Cut a b) = false

-- the event at place p is a close, and no event before it ends the move at node i; the first event has place q
pub record IsNextClose (i q p : ℕ) (es : List Event) : Type 0 where
  pub between : List Event
  pub later : List Event
  pub events : es ≡ between ++ event.Close ∷ later
  pub leave : list_all (leaves i) between ≡ true
  pub place : p ≡ q + length between

-- the number of moves of all rules together
abbrev pub total : ByRule → ℕ
total n = n.update + n.marriage + n.seduction + n.abandonment

-- whether the fate is that the teacher released a move
abbrev pub is_fate_released : Fate → Bool
is_fate_released fate.Released = true
is_fate_released _ = false

-- whether the fate is that a fault, a link or a cut dropped a move
abbrev pub is_fate_dropped : Fate → Bool
is_fate_dropped fate.Dropped = true
is_fate_dropped _ = false

-- whether the fate is that a move is still chosen
abbrev pub is_fate_left : Fate → Bool
is_fate_left fate.Chosen = true
is_fate_left _ = false

-- whether the teacher released the move
abbrev pub is_released : Move → Bool
is_released m = is_fate_released m.fate

-- whether a fault, a link or a cut dropped the move
abbrev pub is_dropped : Move → Bool
is_dropped m = is_fate_dropped m.fate

-- whether the move is still chosen
abbrev pub is_left : Move → Bool
is_left m = is_fate_left m.fate

-- the same event, asked for by student f s in place of s
abbrev pub asked_as : (ℕ → ℕ) → Event → Event
asked_as f (event.Grant s i rule) = event.Grant (f s) i rule
asked_as f (event.Release i) = event.Release i
asked_as f event.Close = event.Close
asked_as f (event.Fault i registers) = event.Fault i registers
asked_as f (event.Link a b) = event.Link a b
asked_as f (event.Cut a b) = event.Cut a b
