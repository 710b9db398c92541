-- Lists of numbers that climb: each number is greater than the one before it.
use Rattle.std.specs.Prelude.{ℕ, ◌<◌, ◌≤◌, List, [], ◌∷◌}

-- the numbers climb: each is greater than the one before it, the first is greater than low, and none is above high
abbrev pub Climbs : ℕ → List ℕ → ℕ → Type 0
Climbs low [] high = low ≤ high
Climbs low (p ∷ ps) high = (low < p) × Climbs p ps high
