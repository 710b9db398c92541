-- The closes that applied moves come in the order of these moves, so one pass counts each close once. The place of an
-- event is its number in the list of events, from 1.
use Rattle.std.proofs.Common.{◌≡◌, ◌⊎◌, ℕ, ◌+◌, ◌<◌, ◌≤◌, Bool, true, false, ◌&&◌, eqb, ltb, List, [], ◌∷◌, length, inl, inr, refl, ◌∙◌, sym, arith}
use Rattle.std.{specs.List.filter, specs.List.list_any, proofs.lemmas.Bool.and_right, proofs.lemmas.Bool.Decides.nat_tests}
use Rattle.mml_ids.specs.Search.{count_below}
use Rattle.mml_ids.proofs.SearchLemmas.{count_same}
use Rattle.mml_board.specs.declared.event.Event.{Event}
use Rattle.mml_convergence.proofs.SumsLemmas.{count_none}
use Rattle.mml_tally.specs.{declared.granted_move.Move.Move, Moves.fate_of, Moves.moves_from, Moves.moves, inside.Closes.close_of, inside.Closes.count_new}
use Rattle.mml_tally.specs.Marks.{is_fate_at, is_applied_at, is_applied, count_applying_closes}
use Rattle.mml_tally.proofs.CountsLemmas.{one, count_split, only_one}
use Rattle.mml_board.specs.declared.event.Event.TheVariants as event

-- ---- a move is applied by the close that comes next, or by none

-- the place of the next close, or the place after the last event if there is none
abbrev pub next_close : ℕ → List Event → ℕ
next_close q [] = q
next_close q (event.Close ∷ es) = q
next_close q (_ ∷ es) = next_close (q + 1) es

pub next_after : (q : ℕ) (es : List Event) → q ≤ next_close q es
next_after q [] = omega arith
next_after q (event.Close ∷ es) = omega arith
next_after q (_ ∷ es) = let rest = next_after (q + 1) es in omega (arith, rest)

-- `close` is the place of the next close among the events from place q on, or `last` if no close applies the move
pub record IsNext (last q : ℕ) (es : List Event) (close : ℕ) : Type 0 where
  pub which : (close ≡ last) ⊎ ((close ≡ next_close q es) × (next_close q es < q + length es))

pub fate_next : (last i q : ℕ) (es : List Event) → IsNext last q es (close_of last (fate_of i q es))
fate_next last i q [] = record { which = inl refl }
fate_next last i q (event.Close ∷ es) = record { which = inr (refl, omega arith) }
fate_next last i q (e ∷ es) = grind (arith, nat_tests, fate_next last i (q + 1) es)

-- ---- the closes come in order

-- the closes of these moves come in order, at places from `last` to n
abbrev pub Rising : ℕ → ℕ → List Move → Type 0
Rising n last [] = Unit {0}
Rising n last (m ∷ ms) = (last ≤ close_of last m.fate) × (close_of last m.fate ≤ n) × Rising n (close_of last m.fate) ms

pub rising_moves : (n last q : ℕ) (es : List Event) → last ≤ next_close q es → q + length es ≤ n + 1 → last ≤ n → Rising n last (moves_from q es)
rising_moves n last q [] le within few = tt
rising_moves n last q (event.Grant s i rule ∷ es) le within few =
    let f = fate_next last i (q + 1) es in
    (omega (arith, f), omega (arith, f), rising_moves n (close_of last (fate_of i (q + 1) es)) (q + 1) es (omega (arith, f)) (omega arith) (omega (arith, f)))
rising_moves n last q (event.Close ∷ es) le within few = rising_moves n last (q + 1) es (omega (arith, next_after (q + 1) es)) (omega arith) few
rising_moves n last q (_ ∷ es) le within few = rising_moves n last (q + 1) es le (omega arith) few

-- closes that come in order from b on also do so from a on, if a is at most b
pub rising_less : (n a b : ℕ) (ms : List Move) → a ≤ b → Rising n b ms → Rising n a ms
rising_less n a b [] le h = tt
rising_less n a b (m ∷ ms) le h = grind (arith, nat_tests, (rising_less n a b ms le))

-- the closes of the moves that pass a test come in order, too
pub rising_filter : (test : Move → Bool) (n last : ℕ) (ms : List Move) → Rising n last ms → Rising n last (filter test ms)
rising_filter test n last [] h = tt
rising_filter test n last (m ∷ ms) h = grind (arith, nat_tests, rising_less, (rising_filter test n (close_of last m.fate) ms h.2))

-- ---- one pass counts each place once

-- whether a close at place q applied one of the moves
abbrev pub some_at : ℕ → List Move → Bool
some_at q ms = list_any (is_applied_at q) ms

pub none_before : (n last q : ℕ) (ms : List Move) → Rising n last ms → some_at q ms ≡ true → last ≤ q
none_before n last q [] h e = cc
none_before n last q (m ∷ ms) h e = grind (arith, nat_tests, is_fate_at q m.fate, none_before n (close_of last m.fate) q ms h.2, h.0)

-- ---- tests of a place, with and without the close of the first move

one_more : (n last : ℕ) (m : Move) (ms : List Move) → Rising n last (m ∷ ms) → (j : ℕ)
    → one (ltb last j && some_at j (m ∷ ms))
    ≡ one (eqb (close_of last m.fate) j && ltb last (close_of last m.fate)) + one (ltb (close_of last m.fate) j && some_at j ms)
one_more n last m ms h j = grind (arith, nat_tests, none_before n (close_of last m.fate) j ms h.2, h.0)

pub counted : (n last : ℕ) (ms : List Move) → Rising n last ms → count_new last ms ≡ count_below (n + 1) (λ q. ltb last q && some_at q ms)
counted n last [] h = sym (count_none (n + 1) (λ q. ltb last q && false) (λ j lt. and_right (ltb last j) false refl))
counted n last (m ∷ ms) h =
    let p = close_of last m.fate in
    let split = count_split (n + 1) (λ q. ltb last q && some_at q (m ∷ ms)) (λ q. eqb p q && ltb last p) (λ q. ltb p q && some_at q ms)
    (λ j lt. one_more n last m ms h j) in
    grind (arith, nat_tests, counted n p ms h.2, split, only_one (n + 1) p (ltb last p) (omega (arith, h.1)), h.0)

-- the closes of those moves of a list of events that pass a test come in order
rising_own : (test : Move → Bool) (e : Event) (es : List Event) → Rising (length (e ∷ es)) 1 (filter test (moves (e ∷ es)))
rising_own test e es = rising_filter test _ 1 (moves (e ∷ es)) (rising_moves _ 1 1 (e ∷ es) (next_after 1 (e ∷ es)) (omega arith) (omega arith))

pub closes_counted : (test : Move → Bool) (es : List Event) → count_new 0 (filter test (moves es)) ≡ count_applying_closes (length es) (filter test (moves es))
closes_counted test [] = refl
closes_counted test (e ∷ es) =
    let n = length (e ∷ es) in
    let own = filter test (moves (e ∷ es)) in
    let rising = rising_own test e es in
    counted n 0 own (rising_less n 0 1 own (omega arith) rising)
    ∙ count_same (n + 1) (λ q. ltb 0 q && some_at q own) (λ q. some_at q own) (λ j lt. grind (arith, nat_tests, none_before n 1 j own rising))

-- ---- a student with an applied move has a counted close

none_applied : (n : ℕ) (ms : List Move) → Rising n 1 ms → count_new 0 ms ≡ 0 → filter is_applied ms ≡ []
none_applied n [] h none = refl
none_applied n (m ∷ ms) h none = grind (arith, nat_tests, (none_applied n ms))

pub no_close : (test : Move → Bool) (es : List Event) → count_applying_closes (length es) (filter test (moves es)) ≡ 0
    → filter is_applied (filter test (moves es)) ≡ []
no_close test [] none = refl
no_close test (e ∷ es) none = none_applied (length (e ∷ es)) (filter test (moves (e ∷ es))) (rising_own test e es) (closes_counted test (e ∷ es) ∙ none)
