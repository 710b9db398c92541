-- Marks of places: a list of flags, one for each place from 0 on. The place of an event is its number in the list of
-- events, from 1.
use Rattle.std.specs.Prelude.{◌≡◌, ◌⊎◌, ◌≤◌, ◌<◌, ◌+◌, ℕ, Bool, true, false, List, [], ◌∷◌, length, Option, None, Some, if◌then◌else◌}
use Rattle.std.specs.List.{slice_index_or}
use Rattle.mml_window.specs.Tallies.{times}
use Rattle.mml_class.specs.declared.granting.Misgranted.{Misgranted, TheVariants.Early, TheVariants.Twice, TheVariants.Nowhere}

-- whether the place has a mark
abbrev pub has_mark : List Bool → ℕ → Bool
has_mark marks p = slice_index_or marks p false

-- 1 for a place with a mark, otherwise 0
abbrev pub marked : List Bool → ℕ → ℕ
marked marks p = if has_mark marks p then 1 else 0

-- the result of marking the place p: None if p got its mark, otherwise the fault: p is out of range, or has a mark
-- already
abbrev pub IsMarked : ℕ → ℕ → List Bool → List Bool → Option Misgranted → Type 0
IsMarked begun p old new None =
    (begun < p) × (p < length old) × (length new ≡ length old) × ((q : ℕ) → marked new q ≡ times q (p ∷ []) + marked old q)
IsMarked begun p old new (Some (Early q)) = (q ≡ p) × ((p ≤ begun) ⊎ (length old ≤ p))
IsMarked begun p old new (Some (Twice q)) = (q ≡ p) × (has_mark old p ≡ true)
IsMarked begun p old new (Some (Nowhere q)) = ⊥

-- each place after `begun` and below q has a mark
abbrev pub AreMarked : ℕ → List Bool → ℕ → Type 0
AreMarked begun marks q = (p : ℕ) → begun < p → p < q → has_mark marks p ≡ true

-- the first place after `begun` without a mark; None if each of them has one
abbrev pub IsUnmarked : ℕ → List Bool → Option Misgranted → Type 0
IsUnmarked begun marks None = AreMarked begun marks (length marks)
IsUnmarked begun marks (Some (Nowhere p)) = (begun < p) × (p < length marks) × (has_mark marks p ≡ false) × AreMarked begun marks p
IsUnmarked begun marks (Some _) = ⊥
