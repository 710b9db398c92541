-- The number of lines that a clause denied is the sum over the denials of this clause. A clause is a condition under
-- which a request is granted.
use Rattle.std.proofs.Common.{◌≡◌, ℕ, ◌+◌, Bool, true, false, cond, List, [], ◌∷◌, refl, ap, ◌∙◌, arith}
use Rattle.std.{specs.Prelude.option_map, specs.Prelude.count_by, proofs.lemmas.Bool.Decides.nat_tests}
use Rattle.mml_tally.specs.{declared.ask.Ask.Ask, declared.student_denials.StudentDenial.StudentDenial, Asks.is_student, Asks.asks_by, Asks.is_clause, Asks.denials_in, Asks.denials_of}
use Rattle.mml_tally.specs.StudentDenials.{clause_named, is_named, named_in, named_of, AreNamed, AreSums}
use Rattle.mml_tally.proofs.CountsLemmas.{one, more}
use Rattle.mml_tally.specs.declared.student_denials.StudentDenial.TheVariants as named

sums_if : (a : Ask) (own : List Ask) (b : Bool) → (b ≡ true → a.denied ≡ option_map clause_named a.named) → AreSums (denials_in own) (named_in own)
    → AreSums (denials_in (cond b (a ∷ own) own)) (named_in (cond b (a ∷ own) own))
sums_if a own true e rest =
    let clause = λ (c : ℕ).
    more (λ (x : Ask). is_clause c x.denied) a own ∙ ap (λ d. one (is_clause c d) + count_by (λ (x : Ask). is_clause c x.denied) own) (e refl) in
    let name = λ (d : StudentDenial). more (λ (x : Ask). is_named d x.named) a own in (
      grind (arith, rest.0, clause 1, nat_tests, name named.Greeted, name named.Hidden, name named.NotOwner, name named.NotTeacher),
      grind (arith, rest.1, clause 2, nat_tests, name named.Stale),
      grind (arith, rest.2, clause 3, nat_tests, name named.Chosen),
      grind (arith, rest.3, clause 4, nat_tests, name named.Guard),
    )
sums_if a own false e rest = rest

pub are_sums : (asks : List Ask) (s : ℕ) → AreNamed asks → AreSums (denials_of asks s) (named_of asks s)
are_sums [] s h = (refl, refl, refl, refl)
are_sums (a ∷ asks) s h = sums_if a (asks_by s asks) (is_student s a.who) (grind (arith, nat_tests)) (are_sums asks s h.1)
