-- How often a place is among those that windows were granted. The place of an event is its number in the list of
-- events, from 1. A window is one session's view of the published events and board.
use Rattle.std.specs.Prelude.{◌≡◌, ℕ, suc, ◌==◌, ◌&&◌, nat_lt, nat_le, if◌then◌else◌, List, [], ◌∷◌, ◌++◌}
use Rattle.mml_window.specs.Windows.{WindowValue}

-- how often a number is in a list
abbrev pub times : ℕ → List ℕ → ℕ
times p [] = 0
times p (q ∷ qs) = if p == q then suc (times p qs) else times p qs

-- 1 for a number from first + 1 to n, otherwise 0
abbrev pub once_from : ℕ → ℕ → ℕ → ℕ
once_from first n p = if (nat_lt first p && nat_le p n) then 1 else 0

-- the list has each number from first + 1 to n once, and no other number
abbrev pub IsEachOnceFrom : ℕ → ℕ → List ℕ → Type 0
IsEachOnceFrom first n ps = (p : ℕ) → times p ps ≡ once_from first n p

-- the list has each number from 1 to n once, and no other number
abbrev pub IsEachOnce : ℕ → List ℕ → Type 0
IsEachOnce n ps = IsEachOnceFrom 0 n ps

-- the places that all windows were granted
abbrev pub told_of : List WindowValue → List ℕ
told_of [] = []
told_of (w ∷ ws) = w.places ++ told_of ws
