-- The entries that an observer was given, one list after another.
use Rattle.std.proofs.lemmas.Bool.Decides.{nat_tests}
use Rattle.std.proofs.Common.{◌≡◌, ℕ, List, [], ◌∷◌, ◌++◌, refl, append_assoc, append-nil, Option, arith}
use mathlib.Core.List.{IsPrefix}
use Rattle.mml_window.proofs.PrefixLemmas.{prefix_trans}
use Rattle.mml_session.specs.{declared.entry.Entry.Entry, Records.Kept, Records.Records, Records.record_text}

-- the text of two lists of entries, one after the other, is their texts one after the other
pub text_more : (number : ℕ) (es fs : List Entry) → record_text number (es ++ fs) ≡ record_text number es ++ record_text number fs
text_more number [] fs = refl
text_more number (e ∷ es) fs = grind (arith, nat_tests, append_assoc, text_more number es fs)

-- a recorder that was given no entry has kept nothing more
pub records_nil : (number : ℕ) (a : Option Kept) → Records number a a []
records_nil number a = grind (arith, nat_tests, append-nil)

-- a beginning of a list is also a beginning of the list with more elements after it
prefix_more : {A : Type 0} (xs ys zs : List A) → IsPrefix xs ys → IsPrefix xs (ys ++ zs)
prefix_more xs ys zs p = prefix_trans xs ys (ys ++ zs) p (zs, refl)

-- two lists of entries that were given one after the other were given together
pub records_trans : (number : ℕ) (a b c : Option Kept) (es fs : List Entry) → Records number a b es → Records number b c fs → Records number a c (es ++ fs)
records_trans number a b c es fs p q = grind (arith, nat_tests, text_more, append_assoc, prefix_more)
