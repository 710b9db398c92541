-- The definitions of the roster agree with the logical statements.
use Rattle.std.proofs.Common.{◌≡◌, ◌↔◌, ℕ, ◌<◌, List, length, get_or, Some, None, true, false, ◌⊎◌, inl, inr, refl, sym, ◌∙◌, arith, Contains}
use Rattle.std.{specs.List.position, proofs.lemmas.Slice.Eq.bytes_eq-Decides}
use Rattle.std.proofs.lemmas.Bool.{Decides.nat_tests, cases_Bool, cases_lt, and_from, and_parts, eqb-true, eq-eqb}
use Rattle.std.proofs.lemmas.List.{get_or_past, Elements.All-get_or, Folds.list_any_at, Folds.Any-from_list_any, Quantifiers.position-Some}
use Rattle.mml_lab.specs.{declared.who.Who.Who, RosterMeaning.IsKnownAs}
use Rattle.mml_lab.specs.Rosters.{Account, RosterValue, IsRoster, principal, owns, owners_of, name_of, student_named, has_name, has_name_and_key, no_account}
use Rattle.mml_ids.proofs.SearchLemmas.{position-only}
use Rattle.mml_lab.proofs.StudentNamedLemmas.{student_is}
use Rattle.mml_lab.specs.declared.who.Who.TheVariants as who

-- ---- the participant of a greeting

has_both : (name key : List ℕ) (a : Account) → has_name_and_key name key a ≡ true → (a.name ≡ name) × (a.key ≡ key)
has_both name key a both = grind (arith, and_parts, bytes_eq-Decides)

from_both : (name key : List ℕ) (a : Account) → a.name ≡ name → a.key ≡ key → has_name_and_key name key a ≡ true
from_both name key a named keyed = and_from _ _ ((bytes_eq-Decides name a.name).1 (sym named)) ((bytes_eq-Decides key a.key).1 (sym keyed))

known_is_found : (r : RosterValue) (name key : List ℕ) (w : Who) → IsRoster r → IsKnownAs r w name key → principal r name key ≡ Some w
known_is_found r name key who.Teacher roster known = rw (from_both name key r.teacher known.named known.keyed)
known_is_found r name key (who.Student s) roster known = by (cases_Bool (has_name_and_key name key r.teacher))
  where
    only : (k : ℕ) → k < length r.students → has_name_and_key name key (get_or r.students k no_account) ≡ true → k ≡ s
    only k lt both =
        let same : who.Student k ≡ who.Student s =
        roster.differ (who.Student k) (who.Student s) lt known.member ((has_both name key (get_or r.students k no_account) both).0 ∙ sym known.named) in
        cc

    by : (has_name_and_key name key r.teacher ≡ true) ⊎ (has_name_and_key name key r.teacher ≡ false) → principal r name key ≡ Some (who.Student s)
    by (inl both) =
        let same : who.Teacher ≡ who.Student s =
        roster.differ who.Teacher (who.Student s) tt known.member ((has_both name key r.teacher both).0 ∙ sym known.named) in
        absurd cc
    by (inr other) =
        let here : position (has_name_and_key name key) r.students ≡ Some s =
        position-only (has_name_and_key name key) r.students s no_account known.member
        (from_both name key (get_or r.students s no_account) known.named known.keyed) only in
        rw (other, here)

-- `principal` returns w exactly if w is a participant with this name and key
pub principal-one : (r : RosterValue) (name key : List ℕ) (w : Who) → IsRoster r → (principal r name key ≡ Some w) ↔ IsKnownAs r w name key
principal-one r name key w roster = (grind (arith, position-Some, has_both), known_is_found r name key w roster)

-- `principal` returns none exactly if no participant has this name and key
pub principal-nobody : (r : RosterValue) (name key : List ℕ) → IsRoster r → (principal r name key ≡ None) ↔ ((w : Who) → ¬ IsKnownAs r w name key)
principal-nobody r name key roster = (
  λ none w known. let found = known_is_found r name key w roster known in absurd cc,
  λ nobody. grind (arith, λ (w : Who) (e : principal r name key ≡ Some w). nobody w ((principal-one r name key w roster).0 e)),
)

-- ---- owners

-- `owns` is true for a student exactly if the student is among the owners of the node
pub owns-student : (r : RosterValue) (s i : ℕ) → (owns r (who.Student s) i ≡ true) ↔ Contains (owners_of r i) s
owns-student r s i = grind (arith, nat_tests, Any-from_list_any, list_any_at, eq-eqb, eqb-true)

-- each owner of a node is a student of the roster
pub owner_there : (r : RosterValue) (s i : ℕ) → IsRoster r → owns r (who.Student s) i ≡ true → s < length r.students
owner_there r s i known owner = grind (arith, nat_tests, owns-student, cases_lt, All-get_or, get_or_past)

-- ---- names

-- `student_named` finds each student of the roster by the student's name
pub student_of_name : (r : RosterValue) (s : ℕ) → IsRoster r → s < length r.students → student_named r (name_of r (who.Student s)) ≡ Some s
student_of_name r s roster lt =
    position-only (has_name (name_of r (who.Student s))) r.students s no_account lt
    ((bytes_eq-Decides (name_of r (who.Student s)) (name_of r (who.Student s))).1 refl) only
  where
    only : (k : ℕ) → k < length r.students → has_name (name_of r (who.Student s)) (get_or r.students k no_account) ≡ true → k ≡ s
    only k in_k named =
        let same : who.Student k ≡ who.Student s =
        roster.differ (who.Student k) (who.Student s) in_k lt
        (sym ((bytes_eq-Decides (name_of r (who.Student s)) (get_or r.students k no_account).name).0 named)) in
        cc

-- a student whom `student_named` finds has that name
pub name_of_student : (r : RosterValue) (name : List ℕ) (s : ℕ) → student_named r name ≡ Some s → name_of r (who.Student s) ≡ name
name_of_student r name s found = (student_is r name s found).1

-- what a roster says of students, names and owners
pub ruleset of_rosters = (owns-student, principal-one, principal-nobody)
