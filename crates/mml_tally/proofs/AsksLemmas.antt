-- Each line is counted for one student or for none, and the names of other students change no count. A clause is a
-- condition under which a request is granted.
use Rattle.std.proofs.Common.{◌≡◌, ℕ, ◌+◌, Bool, true, cond, ◌&&◌, List, [], ◌∷◌, map, Option, None, Some, is_none, option_map, ◌↔◌, refl, arith}
use Rattle.std.{specs.Prelude.count_by, proofs.lemmas.Bool.cases_eq, proofs.lemmas.Bool.ne_eqb, proofs.lemmas.Bool.Decides.nat_tests}
use Rattle.mml_convergence.specs.Potential.{sum_below}
use Rattle.mml_convergence.proofs.SumsLemmas.{sum_zero}
use Rattle.mml_policy.specs.declared.refusal.Refusal.{Refusal}
use Rattle.mml_tally.specs.declared.{ask.Ask.Ask, ask.Line.Line, student_denials.StudentDenial.StudentDenial}
use Rattle.mml_tally.specs.Asks.{is_student, asks_by, is_clause, denials_in, denials_of}
use Rattle.mml_tally.specs.AskMeaning.{asks_of_others, is_denied, total_denied, is_numbered, IsKnownOf, AreAsksOf, asked_under}
use Rattle.mml_tally.proofs.{CountsLemmas.one, CountsLemmas.more, CountsLemmas.kept, CountsLemmas.sum_one, CountsLemmas.sum_more}

-- ---- each line is counted for one student or for none

own : (n : ℕ) (w : Option ℕ) (d : Option ℕ) (b : Bool) → IsKnownOf n w d → sum_below n (λ s. one (is_student s w && b)) + one (is_none w && b) ≡ one b
own n None d b h = omega (arith, sum_zero n)
own n (Some t) d b h = omega (arith, sum_one n t b h.0)

pub asks_sum : (test : Ask → Bool) (n : ℕ) (asks : List Ask) → AreAsksOf n asks
    → sum_below n (λ s. count_by test (asks_by s asks)) + count_by test (asks_of_others asks) ≡ count_by test asks
asks_sum test n [] h = omega (arith, sum_zero n)
asks_sum test n (a ∷ asks) h =
    let others = kept test a (asks_of_others asks) (is_none a.who) in
    let more_of = sum_more (λ (s : ℕ) (x : Ask). is_student s x.who) test n a asks in
    omega (arith, asks_sum test n asks h.1, more_of, own n a.who a.denied (test a) h.0, others, more test a asks)

-- ---- each denied line was denied by one of the clauses 1 to 4

numbered : (s n : ℕ) (w : Option ℕ) (d : Option ℕ) → IsKnownOf n w d → is_student s w ≡ true → is_numbered d ≡ true
numbered s n w d h b = grind (arith, nat_tests)

total_more : (a : Ask) (asks : List Ask) → is_numbered a.denied ≡ true → total_denied (denials_in asks) ≡ count_by is_denied asks
    → total_denied (denials_in (a ∷ asks)) ≡ count_by is_denied (a ∷ asks)
total_more a asks h rest =
    let clause = λ (n : ℕ). more (λ (x : Ask). is_clause n x.denied) a asks in
    grind (arith, rest, clause 1, clause 2, clause 3, clause 4, more is_denied a asks, nat_tests)

pub total_is : (s n : ℕ) (asks : List Ask) → AreAsksOf n asks → total_denied (denials_of asks s) ≡ count_by is_denied (asks_by s asks)
total_is s n [] h = refl
total_is s n (a ∷ asks) h = grind (arith, nat_tests, total_more, numbered, (total_is s n asks h.1))

pub denied_sum : (n : ℕ) (asks : List Ask) → AreAsksOf n asks
    → sum_below n (λ s. total_denied (denials_of asks s)) + count_by is_denied (asks_of_others asks) ≡ count_by is_denied asks
denied_sum n asks h =
    let each : sum_below n (λ s. total_denied (denials_of asks s)) ≡ sum_below n (λ s. count_by is_denied (asks_by s asks)) =
    λ k. sum_below n (λ s. total_is s n asks h k) in
    omega (arith, each, asks_sum is_denied n asks h)

-- ---- the names of other students change nothing

abbrev told : Option ℕ → Line → Option ℕ → Option StudentDenial → Option Refusal → Ask
told w l d n q = record { who = w; line = l; denied = d; named = n; refused = q }

module _ (f : ℕ → ℕ) (s : ℕ) (same : (t : ℕ) → (f t ≡ s) ↔ (t ≡ s)) where
  under : (w : Option ℕ) (l : Line) (d : Option ℕ) (n : Option StudentDenial) (q : Option Refusal) (xs ys : List Ask) → xs ≡ ys
      → cond (is_student s (option_map f w)) (told (option_map f w) l d n q ∷ xs) xs ≡ cond (is_student s w) (told w l d n q ∷ ys) ys
  under w l d n q xs ys e = grind (arith, nat_tests, cases_eq, ne_eqb)

  pub asks_under : (asks : List Ask) → asks_by s (map (asked_under f) asks) ≡ asks_by s asks
  asks_under [] = refl
  asks_under (a ∷ asks) = under a.who a.line a.denied a.named a.refused (asks_by s (map (asked_under f) asks)) (asks_by s asks) (asks_under asks)
