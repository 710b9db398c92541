-- Places that are marked one after another. The place of an event is its number in the list of events, from 1.
use Rattle.std.proofs.Common.{◌≡◌, ◌+◌, ◌≤◌, ◌<◌, ◌++◌, [], ◌∷◌, ℕ, List, Bool, true, false, ap, refl, sym, ◌∙◌, suc, zero, get_or, length, take, drop, arith, Option, None, Some}
use Rattle.std.proofs.lemmas.{Bool.Decides.nat_tests, List.take_more, List.drop_more, List.take_all, List.take-append-drop}
use Rattle.mml_window.{specs.Tallies.times, specs.Tallies.once_from, proofs.TallyLemmas.times_append}
use Rattle.mml_class.specs.declared.granting.Misgranted.{Misgranted}
use Rattle.mml_class.specs.{Granting.IsFound, Granting.ComesAfter, Granting.AreGranted, inside.Marking.marked, inside.Marking.IsMarked, inside.Marking.IsUnmarked}

-- if the marks are made longer by one place without a mark, no mark changes
pub unmarked_more : (marks : List Bool) (p : ℕ) → marked (marks ++ false ∷ []) p ≡ marked marks p
unmarked_more [] p = grind (arith, nat_tests, p)
unmarked_more (b ∷ marks) zero = refl
unmarked_more (b ∷ marks) (suc p) = unmarked_more marks p

-- a list is the places before index i, the place at i, and those after it
split_at : (i : ℕ) (ps : List ℕ) → i < length ps → ps ≡ take i ps ++ get_or ps i 0 ∷ drop (i + 1) ps
split_at i ps in' = sym (take-append-drop i ps) ∙ ap (λ (xs : List ℕ). take i ps ++ xs) (drop_more ps i 0 in')

-- a place is among the first i + 1 as often as among the first i, and once more if it is the one at index i
pub times_more : (i : ℕ) (ps : List ℕ) (q : ℕ) → i < length ps → times q (take (i + 1) ps) ≡ times q (take i ps) + times q (get_or ps i 0 ∷ [])
times_more i ps q in' = ap (times q) (take_more ps i 0 in') ∙ times_append q (take i ps) (get_or ps i 0 ∷ [])

first_at : (i : ℕ) (ps : List ℕ) (q begun count : ℕ) → i < length ps → q ≡ get_or ps i 0 → AreGranted begun count (take i ps) → ComesAfter begun count ps (take i ps) q
first_at i ps q begun count in' is fine =
    record { after = drop (i + 1) ps; split = split_at i ps in' ∙ ap (λ x. take i ps ++ x ∷ drop (i + 1) ps) (sym is); granted = fine }

-- if the places before index i were marked, and the one at i can't be marked, the place at i is the first fault
pub found_first : (begun count i : ℕ) (whole : Bool) (ps : List ℕ) (old new : List Bool) (r : Misgranted) → i < length ps
    → length old ≡ count + 1 → ((q : ℕ) → marked old q ≡ times q (take i ps)) → ((q : ℕ) → marked old q ≤ once_from begun count q)
    → IsMarked begun (get_or ps i 0) old new (Some r) → IsFound begun count whole ps (Some r)
found_first begun count i whole ps old new r in' many counted fine amiss =
    grind (arith, nat_tests, first_at i ps (get_or ps i 0) begun count in' refl (λ t. omega (arith, counted t, fine t)), counted (get_or ps i 0))

-- if one more place was marked, each mark is still that of a place from begun + 1 to `count`
pub fine_more : (begun count p : ℕ) (old new : List Bool) → length old ≡ count + 1 → ((q : ℕ) → marked old q ≤ once_from begun count q)
    → IsMarked begun p old new None → (q : ℕ) → marked new q ≤ once_from begun count q
fine_more begun count p old new many fine m q = grind (arith, nat_tests)

-- If all places of a list were marked, it has no fault, or one: the first place without a mark is missing
pub found_at_end : (begun count n : ℕ) (whole : Bool) (ps : List ℕ) (marks seen : List Bool) (r : Option Misgranted) → whole ≡ true → length ps ≤ n → seen ≡ marks
    → length marks ≡ count + 1 → ((q : ℕ) → marked marks q ≡ times q (take n ps)) → ((q : ℕ) → marked marks q ≤ once_from begun count q)
    → IsUnmarked begun seen r → IsFound begun count whole ps r
found_at_end begun count n whole ps marks seen r is_whole le same many counted fine h = grind (arith, nat_tests, take_all)
