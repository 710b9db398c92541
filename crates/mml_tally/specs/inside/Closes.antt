-- The closes that applied moves, counted in one pass over the moves. The place of an event is its number in the list of
-- events, from 1.
use Rattle.std.specs.Prelude.{ℕ, ◌+◌, ◌==◌, if◌then◌else◌, List, [], ◌∷◌}
use Rattle.mml_tally.specs.declared.{fate.Fate.Fate, granted_move.Move.Move}
use Rattle.mml_tally.specs.declared.fate.Fate.TheVariants as fate

-- the place of the close that applied a move, or `last` if none did
abbrev pub close_of : ℕ → Fate → ℕ
close_of last (fate.Applied p) = p
close_of last fate.Released = last
close_of last fate.Dropped = last
close_of last fate.Chosen = last

-- how many of the moves were applied by another close than the applied move before them; `last` is the place of the
-- close that applied the last move before the list
abbrev pub count_new : ℕ → List Move → ℕ
count_new last [] = 0
count_new last (m ∷ ms) = (if close_of last m.fate == last then 0 else 1) + count_new (close_of last m.fate) ms
