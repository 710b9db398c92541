-- Each move in a legal list was asked for by a student of the lab, so the sum of all students' marks is the number for
-- the whole list. A list of events is legal if the rules allow each event after the earlier ones.
use Rattle.std.proofs.{Common.◌≡◌, Common.ℕ, Common.◌+◌, Common.true, Common.List, Common.[], Common.◌∷◌, Common.◌∙◌, Common.arith, Common.length, lemmas.Bool.and_parts, lemmas.Bool.Decides.nat_tests}
use Rattle.std.specs.Prelude.{count_by}
use Rattle.mml_lab.specs.{Labs.LabValue, Labs.IsLab, Rosters.RosterValue, Rosters.IsRoster}
use Rattle.mml_lab.proofs.RosterMeaningLemmas.{owner_there}
use Rattle.mml_board.specs.{declared.event.Event.Event, World.World, World.IsWorld, World.size, World.opening_of, Events.is_legal, Events.after, Runs.is_legal_list}
use Rattle.mml_board.proofs.{WorldLemmas.length-none, WorldLemmas.hold-none, ClausesLemmas.right_owner}
use Rattle.mml_convergence.specs.{Potential.sum_below, Moves.applied_over}
use Rattle.mml_tally.specs.{Moves.moves_from, Moves.moves, Marks.is_applied, Marks.moves_by, Marks.marks_of, Runs.run_of, Meaning.total}
use Rattle.mml_tally.proofs.{AppliedLemmas.nothing_pending, AppliedLemmas.unchosen, AppliedLemmas.applied_is, MarksLemmas.AllOf, MarksLemmas.students_sum, MarksLemmas.total_applied}
use Rattle.mml_board.specs.declared.event.Event.TheVariants as event

askers_there : (r : RosterValue) (w : World) (q : ℕ) (es : List Event) → IsRoster r → is_legal_list r w es ≡ true → AllOf (length r.students) (moves_from q es)
askers_there r w q [] known legal = tt
askers_there r w q (event.Grant s i rule ∷ es) known legal =
    let e = event.Grant s i rule in
    let here = and_parts (is_legal r w e) (is_legal_list r (after w e) es) legal in
    (owner_there r s i known (right_owner r w e here.0), askers_there r (after w e) (q + 1) es known here.1)
askers_there r w q (_ ∷ es) known legal = askers_there r _ (q + 1) es known (and_parts _ _ legal).1

pub opening-world : (lab : LabValue) → IsLab lab → IsWorld (opening_of lab.network)
opening-world lab known = grind (arith, nat_tests, length-none, hold-none)

pub run_applies : (lab : LabValue) (es : List Event) → IsLab lab → is_legal_list lab.roster (opening_of lab.network) es ≡ true
    → (run_of es).moves ≡ applied_over (opening_of lab.network) es
run_applies lab es known legal =
    let w = opening_of lab.network in
    let none = nothing_pending w (size w) 1 es (unchosen (length lab.network.registers)) in
    omega (arith, applied_is lab.roster w 1 es (opening-world lab known) legal, none)

pub students_apply : (lab : LabValue) (es : List Event) → IsLab lab → is_legal_list lab.roster (opening_of lab.network) es ≡ true
    → sum_below (length lab.roster.students) (λ s. total (marks_of lab.roster es s).applied) ≡ applied_over (opening_of lab.network) es
students_apply lab es known legal =
    let n = length lab.roster.students in
    let each : sum_below n (λ s. total (marks_of lab.roster es s).applied) ≡ sum_below n (λ s. count_by is_applied (moves_by s (moves es))) =
    λ k. sum_below n (λ s. total_applied (moves_by s (moves es)) k) in
    each ∙ students_sum is_applied n (moves es) (askers_there lab.roster (opening_of lab.network) 1 es known.roster legal) ∙ run_applies lab es known legal
