-- Replies whose first member is a number. The digits of a number contain no comma.
use Rattle.std.proofs.Common.{◌≡◌, ℕ, zero, suc, ◌/◌, ◌%◌, true, false, List, [], ◌∷◌, ◌++◌, decimal, refl, arith}
use Rattle.std.{specs.Prelude.nat_lt, specs.Fmt.digits, specs.Fmt.digits_onto, specs.Fmt.digit_glyph, proofs.lemmas.Bool.Decides.nat_tests}
use Rattle.mml_journal.proofs.CuttingLemmas.{avoids}

no_comma_from : (k n : ℕ) (acc : List ℕ) → avoids 44 acc ≡ true → avoids 44 (digits_onto k 10 false n acc) ≡ true
no_comma_from zero n acc h = h
no_comma_from (suc k) n acc h = grind (arith, nat_tests, nat_lt (n % 10) 10, n % 10, no_comma_from k (n / 10) (digit_glyph false (n % 10) ∷ acc))

pub no_comma : (n : ℕ) → avoids 44 (decimal n) ≡ true
unfolding digits
no_comma n = no_comma_from 64 n [] refl

-- the text of a reply whose first member is this number
abbrev pub numbered : ℕ → List ℕ → List ℕ
numbered n rest = 123 ∷ 34 ∷ 97 ∷ 116 ∷ 34 ∷ 58 ∷ (decimal n ++ 44 ∷ rest)
