-- The participants of a lab, the name and the key of each, and who owns each node.
use Rattle.std.specs.Prelude.{◌≡◌, ◌==◌, ℕ, ◌<◌, ◌≤◌, nat_lt, nat_le, Bool, false, ◌&&◌, ◌||◌, IsTrue, List, [], ◌∷◌, length, position, slice_index_or, All, Option, Some, option_map, if◌then◌else◌}
use Rattle.std.specs.Prelude.{bytes_eq}
use Rattle.std.specs.{List.list_any, List.list_all, Char.is_ascii_lowercase, Char.is_ascii_digit, Char.is_ascii_graphic}
use Rattle.mml_lab.specs.declared.{TheConstants.MAX_STUDENTS, TheConstants.MAX_NAME, TheConstants.MAX_KEY, who.Who.Who}
use Rattle.mml_lab.specs.declared.who.Who.TheVariants as who

-- the name and the key of a participant
pub record Account : Type 0 where
  pub name : List ℕ
  pub key : List ℕ

-- the teacher, the students in the file's order, and for each rank the students who own the node
pub record RosterValue : Type 0 where
  pub teacher : Account
  pub students : List Account
  pub owners : List (List ℕ)

-- a to z, 0 to 9 and '-'
abbrev pub is_name_byte : ℕ → Bool
is_name_byte b = is_ascii_lowercase b || is_ascii_digit b || b == 45

-- a name: 1 to 32 of a to z, 0 to 9 and '-', and the first is a letter
abbrev pub is_name : List ℕ → Bool
is_name [] = false
is_name (b ∷ bs) = is_ascii_lowercase b && list_all is_name_byte bs && nat_le (length (b ∷ bs)) MAX_NAME

-- a key: 1 to 64 bytes, each from 33 to 126
abbrev pub is_key : List ℕ → Bool
is_key key = nat_lt 0 (length key) && nat_le (length key) MAX_KEY && list_all is_ascii_graphic key

-- the name and the key are well-formed
abbrev pub is_account : Account → Bool
is_account a = is_name a.name && is_key a.key

-- the account has this name
abbrev pub has_name : List ℕ → Account → Bool
has_name name a = bytes_eq name a.name

-- the account has this name and this key
abbrev pub has_name_and_key : List ℕ → List ℕ → Account → Bool
has_name_and_key name key a = bytes_eq name a.name && bytes_eq key a.key

-- the account that a look-up past the end of a list returns
abbrev pub no_account : Account
no_account = record { name = []; key = [] }

-- the account of a participant
abbrev pub account_of : RosterValue → Who → Account
account_of r who.Teacher = r.teacher
account_of r (who.Student s) = slice_index_or r.students s no_account

-- the name of a participant
abbrev pub name_of : RosterValue → Who → List ℕ
name_of r who = (account_of r who).name

-- the key of a participant
abbrev pub key_of : RosterValue → Who → List ℕ
key_of r who = (account_of r who).key

-- the participant with that name and key, if there is one
abbrev pub principal : RosterValue → List ℕ → List ℕ → Option Who
principal r name key =
    if has_name_and_key name key r.teacher then Some who.Teacher else option_map who.Student (position (has_name_and_key name key) r.students)

-- the index of the student with that name, if there is one
abbrev pub student_named : RosterValue → List ℕ → Option ℕ
student_named r name = position (has_name name) r.students

-- the students who own the node of a rank
abbrev pub owners_of : RosterValue → ℕ → List ℕ
owners_of r i = slice_index_or r.owners i []

-- a student owns each node whose owners include the student; the teacher owns none
abbrev pub owns : RosterValue → Who → ℕ → Bool
owns r who.Teacher i = false
owns r (who.Student s) i = list_any (λ o. o == s) (owners_of r i)

-- the value of `Who` is a participant: the teacher, or one of the students
abbrev pub IsPrincipal : RosterValue → Who → Type 0
IsPrincipal r who.Teacher = Unit {0}
IsPrincipal r (who.Student s) = s < length r.students

-- at most 256 students; names and keys are well-formed, no two participants have the same name, and owners are students
pub record IsRoster (r : RosterValue) : Type 0 where
  pub few : length r.students ≤ MAX_STUDENTS
  pub formed : (w : Who) → IsPrincipal r w → IsTrue (is_account (account_of r w))
  pub differ : (a b : Who) → IsPrincipal r a → IsPrincipal r b → name_of r a ≡ name_of r b → a ≡ b
  pub owned : All (All (λ s. s < length r.students)) r.owners

-- the roster with this teacher, these students and, for each rank, the owners of the node
abbrev pub with_owners : Account → List Account → List (List ℕ) → RosterValue
with_owners teacher students owners = record { teacher = teacher; students = students; owners = owners }
