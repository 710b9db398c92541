-- Places that climb, that is, each of which is greater than the one before it; and how often a place is among those of
-- windows that aren't counted off yet. The cursor of a window is the index of the first of its places that is left,
-- that is, not counted off yet. The place of an event is its number in the list of events, from 1. A window is one
-- session's view of the published events and board.
use Rattle.std.{proofs.lemmas.Bool.Decides.nat_tests, proofs.lemmas.List.drop_more, proofs.lemmas.List.drop_all, specs.Prelude.MatchBool}
use Rattle.std.proofs.Common.{◌≡◌, ℕ, zero, suc, ◌+◌, ◌<◌, ◌≤◌, le_refl, Bool, true, false, List, [], ◌∷◌, ◌++◌, length, drop, set, get_or, replicate, refl, ap, arith, leb}
use Rattle.mml_window.specs.{Climbing.Climbs, Windows.WindowValue, Tallies.times, Tallies.told_of, Tallies.once_from, inside.Cursors.left_of, inside.Cursors.IsStuck}

-- a place is in two lists together as often as in the first one and in the second one
pub times_append : (p : ℕ) (xs ys : List ℕ) → times p (xs ++ ys) ≡ times p xs + times p ys
times_append p [] ys = omega arith
times_append p (x ∷ xs) ys = grind (arith, nat_tests, times_append p xs ys)

-- places that climb to a bound also climb to a higher one
pub climbs_more : (low : ℕ) (ps : List ℕ) (high higher : ℕ) → high ≤ higher → Climbs low ps high → Climbs low ps higher
climbs_more low [] high higher le c = omega arith
climbs_more low (p ∷ ps) high higher le c = (c.0, climbs_more p ps high higher le c.1)

-- places that climb also do so with a place above their bound after them
pub climbs_push : (low : ℕ) (ps : List ℕ) (high p : ℕ) → high < p → Climbs low ps high → Climbs low (ps ++ p ∷ []) p
climbs_push low [] high p lt c = (omega arith, le_refl p)
climbs_push low (q ∷ ps) high p lt c = (c.0, climbs_push q ps high p lt c.1)

-- there are at most as many climbing places as numbers between their bounds
pub climbs_count : (low : ℕ) (ps : List ℕ) (high : ℕ) → Climbs low ps high → low + length ps ≤ high
climbs_count low [] high c = omega arith
climbs_count low (p ∷ ps) high c = omega (arith, c.0, climbs_count p ps high c.1)

-- if places are in rising order from above `low`, none of them is `low` or less
climbs_below : (low : ℕ) (ps : List ℕ) (high p : ℕ) → p ≤ low → Climbs low ps high → times p ps ≡ 0
climbs_below low [] high p le c = refl
climbs_below low (q ∷ ps) high p le c = grind (arith, nat_tests, climbs_below q ps high p (omega arith) c.1)

-- if `place` is left in a window, but isn't its next place, a smaller place is left, too
pub stuck_at : (place low high n q : ℕ) (ps : List ℕ) → Climbs low ps high → n < length ps → q ≡ get_or ps n q → (q ≡ place → ⊥) → IsStuck place (drop n ps)
stuck_at place low high n q [] c lt is differ = absurd (omega arith)
stuck_at place low high zero q (p ∷ ps) c lt is differ =
    λ some. (p, omega (arith, c.0), grind (arith, nat_tests, climbs_below p ps high place), grind (arith, nat_tests))
stuck_at place low high (suc n) q (p ∷ ps) c lt is differ = stuck_at place p high n q ps c.1 (omega arith) is differ

-- a cursor is past the last place exactly if no place is left
pub at_end : (b : Bool) (ps : List ℕ) (n : ℕ) → leb (length ps) n ≡ b → MatchBool b (drop n ps ≡ []) ((p : ℕ) × (0 < times p (drop n ps)))
at_end true ps n is = grind (arith, nat_tests, drop_all)
at_end false ps n is = (get_or ps n 0, grind (arith, nat_tests, drop_more ps n 0))

-- if `IsStuck` holds for two lists, it holds for one list after the other
pub stuck_append : (place : ℕ) (xs ys : List ℕ) → IsStuck place xs → IsStuck place ys → IsStuck place (xs ++ ys)
stuck_append place xs ys f h some = grind (arith, nat_tests, times_append)

-- if one window gets another cursor, only the places left in this window change
left_set : (p : ℕ) (ws : List WindowValue) (cs : List ℕ) (i c : ℕ) (w : WindowValue) → i < length ws → i < length cs
    → times p (left_of ws (set cs i c)) + times p (drop (get_or cs i 0) (get_or ws i w).places)
    ≡ times p (left_of ws cs) + times p (drop c (get_or ws i w).places)
left_set p [] cs i c w lw lc = absurd (omega arith)
left_set p (v ∷ ws) [] i c w lw lc = absurd (omega arith)
left_set p (v ∷ ws) (d ∷ cs) zero c w lw lc = grind (arith, times_append)
left_set p (v ∷ ws) (d ∷ cs) (suc i) c w lw lc = grind (arith, times_append, left_set p ws cs i c w (omega arith) (omega arith))

-- the places left in one window are among those left in all windows
pub left_among : (p : ℕ) (ws : List WindowValue) (cs : List ℕ) (i : ℕ) (w : WindowValue) → get_or ws i w ≡ w → i < length ws → i < length cs
    → times p (drop (get_or cs i 0) w.places) ≤ times p (left_of ws cs)
left_among p ws cs i w is lw lc = grind (arith, nat_tests, drop_all, left_set p ws cs i (length w.places) w)

-- if the cursor of one window moves over `place`, this place is left once less, and any other as often as before
pub left_moved : (p place : ℕ) (ws : List WindowValue) (cs : List ℕ) (i : ℕ) (w : WindowValue) → get_or ws i w ≡ w → i < length ws → i < length cs
    → drop (get_or cs i 0) w.places ≡ place ∷ drop (get_or cs i 0 + 1) w.places
    → times p (left_of ws cs) ≡ times p (place ∷ []) + times p (left_of ws (set cs i (get_or cs i 0 + 1)))
left_moved p place ws cs i w is lw lc next = grind (arith, nat_tests, left_set p ws cs i (get_or cs i 0 + 1) w)

-- the places left from window i on are those left in this window, and then those left in the windows after it
pub left_drop : (ws : List WindowValue) (cs : List ℕ) (i : ℕ) (w : WindowValue) → get_or ws i w ≡ w → i < length ws → i < length cs
    → left_of (drop i ws) (drop i cs) ≡ drop (get_or cs i 0) w.places ++ left_of (drop (i + 1) ws) (drop (i + 1) cs)
left_drop ws cs i w is lw lc = grind (arith, nat_tests, drop_more ws i w lw, drop_more cs i 0 lc)

-- if all cursors are 0, all places are left
pub left_first : (ws : List WindowValue) (n : ℕ) → length ws ≤ n → left_of ws (replicate n 0) ≡ told_of ws
left_first [] n le = refl
left_first (w ∷ ws) zero le = absurd (omega arith)
left_first (w ∷ ws) (suc n) le = ap (λ (l : List ℕ). w.places ++ l) (left_first ws n (omega arith))

-- the places from first + 1 to n are counted off, and `left` has the other ones
abbrev pub IsCounted : ℕ → ℕ → List ℕ → List ℕ → Type 0
IsCounted first n all left = (p : ℕ) → times p all ≡ once_from first n p + times p left

-- before any place is counted off, all are left
pub counted_none : (first : ℕ) (all left : List ℕ) → left ≡ all → IsCounted first first all left
counted_none first all left is p = grind (arith, nat_tests, ap (times p) is)
