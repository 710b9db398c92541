-- Fields that are appended one after another.
use Rattle.std.proofs.lemmas.Bool.Decides.{nat_tests}
use Rattle.std.proofs.Common.{◌≡◌, ℕ, List, ◌++◌, OnOk, Result, codes, ap, ◌∙◌, append_assoc, arith}

-- if P holds in case of a success, and Q follows from P, Q holds in this case, too
pub on_ok : {T E P Q : Type 0} (r : Result T E) → (P → Q) → OnOk r P → OnOk r Q
on_ok r f h = grind (arith, nat_tests)

-- if x is appended to a, and then y, the result is a, followed by x and y
pub then_put : (a b c x y : List ℕ) → b ≡ a ++ x → c ≡ b ++ y → c ≡ a ++ (x ++ y)
then_put a b c x y first second = second ∙ ap (λ t. t ++ y) first ∙ append_assoc a x y

-- if `first`, a quotation mark, a key, a quotation mark with a colon, and `rest` are appended one after another, the
-- result has all of them in this order
pub key_put : (a b c d e first key rest : List ℕ) → b ≡ a ++ first → c ≡ b ++ codes "\"" → d ≡ c ++ key → e ≡ d ++ codes "\":"
    → e ++ rest ≡ a ++ (first ++ (codes "\"" ++ (key ++ (codes "\":" ++ rest))))
key_put a b c d e first key rest one two three four = grind (arith, nat_tests, append_assoc, then_put)
