-- The sums of students' marks, and what marks don't depend on.
use Rattle.std.proofs.Common.{◌≡◌, ◌↔◌, ℕ, ◌+◌, ◌<◌, Bool, eqb, List, [], ◌∷◌, unwrap_or, map, refl, ◌∙◌, arith, length}
use Rattle.std.{specs.Prelude.count_by, proofs.lemmas.Bool.Decides.nat_tests, proofs.lemmas.List.Sums.length-filter}
use Rattle.mml_rules.specs.{declared.rule.Kind.Kind}
use Rattle.mml_board.specs.declared.event.Event.{Event}
use Rattle.mml_convergence.specs.Potential.{sum_below}
use Rattle.mml_convergence.proofs.SumsLemmas.{sum_zero}
use Rattle.mml_tally.specs.{declared.granted_move.Move.Move, Moves.ended_by, Moves.fate_of, Moves.moves_from}
use Rattle.mml_tally.specs.{Marks.is_kind, Marks.is_applied, Marks.applied, Marks.by_rule, Marks.moves_by, Meaning.total, Meaning.is_released, Meaning.is_dropped, Meaning.is_left, Meaning.asked_as}
use Rattle.mml_tally.proofs.{CountsLemmas.more, CountsLemmas.sum_one, CountsLemmas.sum_more}
use Rattle.mml_rules.specs.declared.rule.Kind.TheVariants as kind
use Rattle.mml_board.specs.declared.event.Event.TheVariants as event

-- ---- each move is of one kind of rule

pub total_is : (ms : List Move) → total (by_rule ms) ≡ length ms
total_is [] = refl
total_is (m ∷ ms) =
    let of = λ (k : Kind). more (λ (x : Move). is_kind k x.kind) m ms in
    grind (arith, total_is ms, of kind.Update, of kind.Marriage, of kind.Seduction, of kind.Abandonment)

pub total_applied : (ms : List Move) → total (by_rule (applied ms)) ≡ count_by is_applied ms
total_applied ms = total_is (applied ms) ∙ length-filter is_applied ms

-- ---- each move has one fate

pub all_fates : (ms : List Move) → length ms ≡ count_by is_applied ms + count_by is_released ms + count_by is_dropped ms + count_by is_left ms
all_fates [] = refl
all_fates (m ∷ ms) = grind (arith, all_fates ms, more is_applied m ms, more is_released m ms, more is_dropped m ms, more is_left m ms)

-- ---- each move was asked for by one student

-- each move was asked for by one of the first n students
abbrev pub AllOf : ℕ → List Move → Type 0
AllOf n [] = Unit {0}
AllOf n (m ∷ ms) = (m.who < n) × AllOf n ms

pub students_sum : (test : Move → Bool) (n : ℕ) (ms : List Move) → AllOf n ms → sum_below n (λ s. count_by test (moves_by s ms)) ≡ count_by test ms
students_sum test n [] h = sum_zero n
students_sum test n (m ∷ ms) h =
    omega (arith, students_sum test n ms h.1, sum_more (λ (s : ℕ) (x : Move). eqb x.who s) test n m ms, sum_one n m.who (test m) h.0, more test m ms)

-- ---- the names of other students change nothing

ended_as : (f : ℕ → ℕ) (i q : ℕ) (e : Event) → ended_by i q (asked_as f e) ≡ ended_by i q e
ended_as f i q e = grind (arith, nat_tests)

fate_as : (f : ℕ → ℕ) (i q : ℕ) (es : List Event) → fate_of i q (map (asked_as f) es) ≡ fate_of i q es
fate_as f i q [] = refl
fate_as f i q (e ∷ es) = λ k. unwrap_or (ended_as f i q e k) (fate_as f i (q + 1) es k)

pub moves_as : (f : ℕ → ℕ) (s q : ℕ) (es : List Event) → ((t : ℕ) → (f t ≡ s) ↔ (t ≡ s))
    → moves_by s (moves_from q (map (asked_as f) es)) ≡ moves_by s (moves_from q es)
moves_as f s q [] own = refl
moves_as f s q (event.Grant t i rule ∷ es) own = grind (arith, nat_tests, (own t).0, (own t).1, fate_as f i (q + 1) es, moves_as f s (q + 1) es own)
moves_as f s q (_ ∷ es) own = moves_as f s (q + 1) es own
