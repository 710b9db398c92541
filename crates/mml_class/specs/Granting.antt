-- Whether the places that records grant are those of a journal's events, each once. The place of an event is its number
-- in the list of events, from 1.
use Rattle.std.specs.Prelude.{◌≡◌, ◌≤◌, ◌<◌, ℕ, Bool, true, List, ◌∷◌, ◌++◌, Option, None, Some}
use Rattle.mml_window.specs.Tallies.{times, once_from, IsEachOnceFrom}
use Rattle.mml_class.specs.declared.granting.Misgranted.{Misgranted, TheVariants.Early, TheVariants.Twice, TheVariants.Nowhere}

-- each of the places is from begun + 1 to `count`, and is in the list only once
abbrev pub AreGranted : ℕ → ℕ → List ℕ → Type 0
AreGranted begun count ps = (p : ℕ) → times p ps ≤ once_from begun count p

-- p is in the list, directly after the places `before`, which have no fault
pub record ComesAfter (begun count : ℕ) (ps before : List ℕ) (p : ℕ) : Type 0 where
  pub after : List ℕ
  pub split : ps ≡ before ++ p ∷ after
  pub granted : AreGranted begun count before

-- the first fault of the places.
-- None: they have no fault, and if the records are whole, each place from begun + 1 to `count` is in the list.
-- Early, Twice: p is the first place that isn't from begun + 1 to `count`, or that is in the list before, too.
-- Nowhere: the records are whole, the list has no fault, and p is the least place that is missing
abbrev pub IsFound : ℕ → ℕ → Bool → List ℕ → Option Misgranted → Type 0
IsFound begun count whole ps None = AreGranted begun count ps × (whole ≡ true → IsEachOnceFrom begun count ps)
IsFound begun count whole ps (Some (Early p)) = (before : List ℕ) × ComesAfter begun count ps before p × (once_from begun count p ≡ 0)
IsFound begun count whole ps (Some (Twice p)) = (before : List ℕ) × ComesAfter begun count ps before p × (times p before ≡ 1)
IsFound begun count whole ps (Some (Nowhere p)) =
    (whole ≡ true) × AreGranted begun count ps × (once_from begun count p ≡ 1) × (times p ps ≡ 0) × ((q : ℕ) → q < p → times q ps ≡ once_from begun count q)
