-- The first account whose name an earlier account has, and rosters in which all names are different.
use Rattle.std.proofs.Common.{◌≡◌, ◌↔◌, ℕ, suc, ◌<◌, ◌≤◌, List, ◌∷◌, length, Option, Some, None, true, false, not, refl, sym, ap, ◌∙◌, arith, true≢false, All}
use Rattle.std.{specs.List.position, specs.Option.option_map, proofs.lemmas.Slice.Eq.bytes_eq-Decides}
use Rattle.std.proofs.lemmas.Bool.{Decides.nat_tests, cases_Bool, cases_order, not-false}
use Rattle.std.proofs.lemmas.List.{length-take-le, get_or-take, get_or_default, Folds.list_any_at, Folds.Any-from_list_any}
use Rattle.mml_ids.specs.Search.{first_below}
use Rattle.mml_lab.specs.declared.{TheConstants.MAX_STUDENTS, who.Who.Who}
use Rattle.mml_lab.specs.Rosters.{Account, IsRoster, IsPrincipal, name_of, account_of, with_owners, is_account, no_account}
use Rattle.mml_lab_file.specs.{Reading.is_name_again, Reading.name_twice, LabMeaning.IsFirstAgain, LabMeaning.AreDistinctBelow, LabMeaning.name_at}
use Rattle.mml_ids.proofs.{SearchLemmas.position-None, SearchLemmas.first-is, SearchLemmas.first-at, SearchLemmas.none-is, SearchLemmas.none-at, GivesLemmas.map_none}
use Rattle.mml_lab.specs.declared.who.Who.TheVariants as who
use Rattle.mml_lab.specs.declared.lab_fault.LabFault.TheVariants as fault

again_means : (accounts : List Account) (k : ℕ) → k < length accounts → is_name_again accounts k ≡ true → (j : ℕ) × (j < k) × (name_at accounts j ≡ name_at accounts k)
again_means accounts k within is = grind (arith, nat_tests, Any-from_list_any, length-take-le, get_or_default, get_or-take, bytes_eq-Decides)

-- if none of the first n names occurs earlier, the first n names are different
fresh-differ : (accounts : List Account) (n : ℕ) → n ≤ length accounts → ((k : ℕ) → k < n → is_name_again accounts k ≡ false) → AreDistinctBelow accounts n
fresh-differ accounts n le fresh j k lt within same = true≢false (sym (grind (arith, get_or-take, bytes_eq-Decides, list_any_at, length-take-le)) ∙ fresh k within)

-- the error is `NameTwice k` exactly if k is the first index whose name occurs earlier
pub name_twice_fault : (accounts : List Account) (k : ℕ) → (name_twice accounts ≡ Some (fault.NameTwice k)) ↔ IsFirstAgain accounts k
name_twice_fault accounts k = (
  λ found.
      let at = first-is (is_name_again accounts) (length accounts) k (below (first_below (is_name_again accounts) (length accounts)) found) in
      record { within = at.0; again = again_means accounts k at.0 at.1; first = fresh-differ accounts k (omega arith) at.2 },
  λ first.
      ap (option_map fault.NameTwice) (first-at (is_name_again accounts) (length accounts) k first.within
      (grind (arith, get_or-take, bytes_eq-Decides, list_any_at, length-take-le)) (grind (arith, cases_Bool, again_means))),
)
  where
    below : (o : Option ℕ) → option_map fault.NameTwice o ≡ Some (fault.NameTwice k) → o ≡ Some k
    below o e = grind arith

-- there is no such error exactly if all names are different
pub name_twice_none : (accounts : List Account) → (name_twice accounts ≡ None) ↔ AreDistinctBelow accounts (length accounts)
name_twice_none accounts = (
  λ none. fresh-differ accounts (length accounts) (omega arith) (none-is (is_name_again accounts) (length accounts) (map_none fault.NameTwice _ none)),
  λ differ. ap (option_map fault.NameTwice) (none-at (is_name_again accounts) (length accounts) (grind (arith, cases_Bool, again_means, length accounts))),
)

-- ---- a roster of well-formed accounts with different names

-- well-formed accounts with different names, and owners who are students, make a lawful roster
pub is_roster : (teacher : Account) (students : List Account) (owners : List (List ℕ)) → length students ≤ MAX_STUDENTS
    → position (λ a. not (is_account a)) (teacher ∷ students) ≡ None → name_twice (teacher ∷ students) ≡ None → All (All (λ s. s < length students)) owners
    → IsRoster (with_owners teacher students owners)
is_roster teacher students owners few formed twice owned = record { few = few; formed = form; differ = differ; owned = owned }
  where
    form : (w : Who) → IsPrincipal (with_owners teacher students owners) w → is_account (account_of (with_owners teacher students owners) w) ≡ true
    form who.Teacher member = not-false _ (position-None (λ a. not (is_account a)) (teacher ∷ students) no_account formed 0 (omega arith))
    form (who.Student s) member = not-false _ (position-None (λ a. not (is_account a)) (teacher ∷ students) no_account formed (suc s) (omega arith))

    one_index : (j k : ℕ) → j < length (teacher ∷ students) → k < length (teacher ∷ students) → name_at (teacher ∷ students) j ≡ name_at (teacher ∷ students) k → j ≡ k
    one_index = grind (arith, cases_order, teacher ∷ students, (name_twice_none (teacher ∷ students)).0 twice)

    differ : (a b : Who) → IsPrincipal (with_owners teacher students owners) a → IsPrincipal (with_owners teacher students owners) b
        → name_of (with_owners teacher students owners) a ≡ name_of (with_owners teacher students owners) b → a ≡ b
    differ who.Teacher who.Teacher in_a in_b same = refl
    differ who.Teacher (who.Student t) in_a in_b same = let no_such : 0 ≡ suc t = one_index 0 (suc t) (omega arith) (omega arith) same in absurd (omega arith)
    differ (who.Student s) who.Teacher in_a in_b same = let no_such : suc s ≡ 0 = one_index (suc s) 0 (omega arith) (omega arith) same in absurd (omega arith)
    differ (who.Student s) (who.Student t) in_a in_b same =
        let one_more : suc s ≡ suc t = one_index (suc s) (suc t) (omega arith) (omega arith) same in
        grind (arith, nat_tests)
