-- The union of two sets, which is made by moving ranks from one set to the other.
use Rattle.std.proofs.{Common.◌≡◌, Common.ℕ, Common.Bool, Common.true, Common.◌&&◌, Common.not, Common.eqb, Common.ap, Common.◌∙◌, Common.arith, lemmas.Bool.Decides.nat_tests}
use Rattle.std.specs.{Prelude.◌||◌, Ordering.nat_cmp, FinSet.FinSet}
use Rattle.mml_ids.specs.inside.WordsLemmas.{has_empty, has_insert, has_remove}
use Rattle.std.specs.FinSet as sets

moved : (b s t both : Bool) → (b ≡ true → t ≡ true) → (s || t) ≡ both → ((b || s) || (not b && t)) ≡ both
moved b s t both there h = grind (arith, nat_tests)

-- if a rank is moved from one set to the other, the union of both stays the same
pub one_moved : (s t s' t' : FinSet nat_cmp) (r q : ℕ) (both : Bool) → s' ≡ sets.insert s r → t' ≡ sets.remove t r → sets.contains t r ≡ true
    → (sets.contains s q || sets.contains t q) ≡ both → (sets.contains s' q || sets.contains t' q) ≡ both
one_moved s t s' t' r q both put taken there h =
    ap (λ (x : FinSet nat_cmp). sets.contains x q || sets.contains t' q) put
    ∙ ap (λ (x : FinSet nat_cmp). sets.contains (sets.insert s r) q || sets.contains x q) taken
    ∙ ap (λ (b : Bool). b || sets.contains (sets.remove t r) q) (has_insert s r q)
    ∙ ap (λ (b : Bool). (eqb q r || sets.contains s q) || b) (has_remove t r q)
    ∙ moved (eqb q r) (sets.contains s q) (sets.contains t q) both (grind (arith, nat_tests)) h

-- if the second set is empty, the union is the first set
pub all_moved : (s t : FinSet nat_cmp) (q : ℕ) (both : Bool) → t ≡ sets.empty → (sets.contains s q || sets.contains t q) ≡ both → sets.contains s q ≡ both
all_moved s t q both none h = grind (arith, nat_tests, has_empty)
