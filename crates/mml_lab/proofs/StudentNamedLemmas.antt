-- Searching a name in the list of accounts and in the map of the students.
use Rattle.std.proofs.lemmas.{Bool.Decides.nat_tests, List.Quantifiers.position-Some, Slice.Eq.bytes_eq-Decides}
use Rattle.std.proofs.Common.{◌≡◌, ℕ, ◌<◌, List, [], ◌∷◌, length, get_or, map, Option, Some, refl, ap, ◌∙◌, string_bytes, String, Global, arith}
use Rattle.std.specs.{Prelude.bytes_eq, Prelude.IfSome, List.position, List.position_or_len, Map.keys_of}
use Rattle.mml_lab.specs.{Rosters.Account, Rosters.RosterValue, Rosters.has_name, Rosters.no_account, Rosters.name_of, Rosters.student_named, AccountView.entry_account}
use Rattle.mml_lab.specs.declared.who.Who.TheVariants as who

-- a student's name and key, as the map stores them
abbrev pub Entry : Type 0
Entry = String Global × String Global

abbrev pub account_at : List Account → ℕ → Account
account_at accounts k = get_or accounts k no_account

index_same : (name : List ℕ) (es : List Entry) → position_or_len (λ k. bytes_eq name (string_bytes k)) (keys_of es) ≡ position_or_len (has_name name) (map entry_account es)
index_same name [] = refl
index_same name (e ∷ es) = rw (index_same name es)

length_same : (es : List Entry) → length (keys_of es) ≡ length (map entry_account es)
length_same [] = refl
length_same (e ∷ es) = rw (length_same es)

-- a search for a name in the map has the same result as in the list of accounts
pub position_same : (name : List ℕ) (es : List Entry) → position (λ k. bytes_eq name (string_bytes k)) (keys_of es) ≡ position (has_name name) (map entry_account es)
position_same name es = rw (index_same name es, length_same es)

-- if the map has the roster's students, a search for a name in it has the result of `student_named`
pub search_same : (r : RosterValue) (name : List ℕ) (es : List Entry) (o : Option ℕ) → map entry_account es ≡ r.students
    → o ≡ position (λ k. bytes_eq name (string_bytes k)) (keys_of es) → o ≡ student_named r name
search_same r name es o same found = found ∙ position_same name es ∙ ap (position (has_name name)) same

-- a student whom `student_named` finds is a student of the roster and has that name
pub student_is : (r : RosterValue) (name : List ℕ) (s : ℕ) → student_named r name ≡ Some s → (s < length r.students) × (name_of r (who.Student s) ≡ name)
student_is r name s found = grind (arith, position-Some, bytes_eq-Decides)

-- if `student_named` finds a student, this is a student of the roster and has that name
pub whoever_is : (r : RosterValue) (name : List ℕ) (o : Option ℕ) → o ≡ student_named r name
    → IfSome o (λ s. s < length r.students) × IfSome o (λ s. name_of r (who.Student s) ≡ name)
whoever_is r name o found = grind (arith, nat_tests, student_is)
