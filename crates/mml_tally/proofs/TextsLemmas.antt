-- Texts to which one more line is appended.
use Rattle.std.proofs.{Common.◌≡◌, Common.ℕ, Common.◌+◌, Common.add-one, Common.List, Common.◌++◌, Common.append_assoc, Common.arith, lemmas.Bool.Decides.nat_tests}
use Rattle.mml_lab.specs.Rosters.{RosterValue, name_of}
use Rattle.mml_stable.specs.Reports.{each_below}
use Rattle.mml_lab.specs.declared.who.Who.TheVariants as who

-- equations by which a text with a line for each number below n + 1 is the text below n and one more line
pub ruleset one_line_more = (nat_tests, add-one, append_assoc)

-- a text with a line for each student below `place`, to which the line of the next student is appended
pub next_line : {A : Type 0} (line : List ℕ → A → List ℕ) (count : RosterValue → ℕ → A) (now before first : List ℕ) (r r' : RosterValue) (s place : ℕ)
    (name : List ℕ) (counts : A) → before ≡ first ++ each_below place (λ i. line (name_of r' (who.Student i)) (count r' i)) → now ≡ before ++ line name counts
    → r ≡ r' → s ≡ place → name ≡ name_of r (who.Student s) → counts ≡ count r s
    → now ≡ first ++ each_below (place + 1) (λ i. line (name_of r' (who.Student i)) (count r' i))
next_line line count now before first r r' s place name counts b n er es en ec = grind (arith, one_line_more)
