-- Which texts are well-formed names and keys.
use Rattle.std.proofs.lemmas.Bool.{Decides.nat_tests, or_left, or_right, and_from, and_parts, or_cases, eqb-true, eq-eqb, leb-true, le-leb, ltb-true, lt-ltb}
use Rattle.std.proofs.lemmas.{Grind.common_steps, List.Elements.All-weaker, List.Elements.All-tail, List.Elements.All-cons, List.Sums.AllPass-from_list_all, List.Sums.list_all-from_AllPass}
use Rattle.std.proofs.Common.{◌≡◌, ◌↔◌, ℕ, List, [], ◌∷◌, length, Bool, true, arith, All, nat_le, rules}
use Rattle.std.specs.{List.list_all, Int.is_in_range, Int.IsInRange}
use Rattle.mml_lab.specs.{declared.TheConstants.MAX_NAME, Rosters.is_name, Rosters.is_key, Rosters.is_name_byte, RosterMeaning.IsName, RosterMeaning.IsKey, RosterMeaning.IsNameByte}

in_range : (low high b : ℕ) → is_in_range low high b ≡ true → IsInRange low high b
in_range low high b is = let parts = and_parts (nat_le low b) (nat_le b high) is in (leb-true low b parts.0, leb-true b high parts.1)

from_range : (low high b : ℕ) → IsInRange low high b → is_in_range low high b ≡ true
from_range low high b within = and_from _ _ (le-leb low b within.0) (le-leb b high within.1)

from_name_byte : (b : ℕ) → IsNameByte b → is_name_byte b ≡ true
from_name_byte b y = grind (arith, or_left, from_range, or_right, eq-eqb)

each_passes : (p : ℕ → Bool) (P : ℕ → Type 0) → ((b : ℕ) → p b ≡ true → P b) → (bs : List ℕ) → list_all p bs ≡ true → All P bs
each_passes p P means bs all = All-weaker (λ b. p b ≡ true) P means bs (AllPass-from_list_all p bs all)

all_pass : (p : ℕ → Bool) (P : ℕ → Type 0) → ((b : ℕ) → P b → p b ≡ true) → (bs : List ℕ) → All P bs → list_all p bs ≡ true
all_pass p P means bs all = list_all-from_AllPass p bs (All-weaker P (λ b. p b ≡ true) means bs all)

name-is : (name : List ℕ) → is_name name ≡ true → IsName name
name-is [] is = absurd cc
name-is (b ∷ bs) is = grind (arith, common_steps, nat_tests, and_parts, in_range, leb-true, All-cons, each_passes, or_cases, eqb-true)

from_name : (name : List ℕ) → IsName name → is_name name ≡ true
from_name [] form = let some = form.some in absurd (omega arith)
from_name (b ∷ bs) form =
    and_from _ _ (and_from _ _ (from_range 97 122 b form.first) (all_pass is_name_byte IsNameByte from_name_byte bs (All-tail IsNameByte b bs form.bytes)))
    (le-leb (length (b ∷ bs)) MAX_NAME form.short)

-- `is_name` is true exactly for well-formed names
pub name-means : (name : List ℕ) → (is_name name ≡ true) ↔ IsName name
name-means name = (name-is name, from_name name)

from_key : (key : List ℕ) → IsKey key → is_key key ≡ true
from_key key form = search (rules, and_from, lt-ltb, le-leb, all_pass, from_range)

-- `is_key` is true exactly for well-formed keys
pub key-means : (key : List ℕ) → (is_key key ≡ true) ↔ IsKey key
key-means key = (grind (arith, common_steps, nat_tests, and_parts, ltb-true, leb-true, each_passes, in_range), from_key key)

-- what the forms of names and keys mean
pub ruleset forms = (name-means, key-means)
