-- The places of windows that aren't counted off yet. The cursor of a window is the index of the first of its places
-- that is left. The place of an event is its number in the list of events, from 1.
use Rattle.std.specs.Prelude.{ℕ, ◌<◌, List, [], ◌∷◌, ◌++◌, drop}
use Rattle.mml_window.specs.{Windows.WindowValue, Tallies.times}

-- the places left in all windows: those from each window's cursor on
abbrev pub left_of : List WindowValue → List ℕ → List ℕ
left_of [] cursors = []
left_of (w ∷ ws) [] = []
left_of (w ∷ ws) (c ∷ cursors) = drop c w.places ++ left_of ws cursors

-- if this place is in the list, a smaller one is in it, too
abbrev pub IsStuck : ℕ → List ℕ → Type 0
IsStuck place ps = 0 < times place ps → (p : ℕ) × (0 < p) × (p < place) × (0 < times p ps)
