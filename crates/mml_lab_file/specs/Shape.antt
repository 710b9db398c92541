-- The contents of a TOML table as a lab, or the first key that is missing or of the wrong kind.
use Rattle.std.specs.Prelude.{ℕ, ℤ, Bool, true, false, ◌&&◌, nat_lt, nat_le, codes, List, [], ◌∷◌, length, Option, Some, None, option_map, is_some, Result, Ok, Err, ok_or, if◌then◌else◌}
use Rattle.std.specs.Str.{is_utf8}
use Rattle.toml.specs.{Parse.parse_document, Data.Data, Data.Items, Data.no_items, Data.item, Data.Members, Data.get_member, Data.as_str, Data.as_integer, Data.as_bool, Data.as_table, Data.as_array}
use Rattle.mml_ids.specs.Gives.{◌>>=◌}
use Rattle.mml_lab.specs.{declared.TheConstants.MAX_OWNERS, declared.lab_fault.LabFault.LabFault, declared.lab_fault.Key.Key, Rosters.Account}
use Rattle.mml_lab.specs.declared.lab_fault.LabFault.TheVariants as fault
use Rattle.mml_lab.specs.declared.lab_fault.Key.TheVariants as key

-- the error is that memory ran out
abbrev pub is_lab_memory : LabFault → Bool
is_lab_memory fault.Memory = true
is_lab_memory _ = false

-- the value under a key, or the error that the key is missing
abbrev pub value_under : Key → List ℕ → Members → Result Data LabFault
value_under at name members = ok_or (get_member name members) (fault.Missing at)

-- the value, if it is of the required kind, or the error that it is of another kind
abbrev pub of_kind : {A : Type 0} → Key → (Data → Option A) → Data → Result A LabFault
of_kind at kind value = ok_or (kind value) (fault.WrongKind at)

-- the value under a key, or the error that the key is missing or that its value is of another kind
abbrev pub needed : {A : Type 0} → Key → List ℕ → (Data → Option A) → Members → Result A LabFault
needed at name kind members = value_under at name members >>= λ value. of_kind at kind value

-- the result of reading the value under a key that may be left out
abbrev pub optional : {A : Type 0} → (Data → Result A LabFault) → Option Data → Result (Option A) LabFault
optional read None = Ok None
optional read (Some value) = read value >>= λ found. Ok (Some found)

-- the value under a key that may be left out, or the error that it is of another kind
abbrev pub optional_of : {A : Type 0} → Key → (Data → Option A) → Option Data → Result (Option A) LabFault
optional_of at kind = optional (of_kind at kind)

-- the truth value, or false if there is none
abbrev pub or_false : Option Bool → Bool
or_false None = false
or_false (Some b) = b

-- the results of reading the values in order, or the first error
abbrev pub each : {A : Type 0} → (Data → Result A LabFault) → Items → Result (List A) LabFault
each f no_items = Ok []
each f (item first rest) = f first >>= λ x. each f rest >>= λ xs. Ok (x ∷ xs)

-- the strings under `name` and `key` of a table; an error of `name` has the key name_at, an error of `key` the key
-- key_at
unfoldable pub account_in : Key → Key → Members → Result Account LabFault
account_in name_at key_at members = do
  name ← needed name_at (codes "name") as_str members
  secret ← needed key_at (codes "key") as_str members
  Ok (record { name = name; key = secret })

-- an element of `student`: a table with a name and a key
unfoldable pub student_of : Data → Result Account LabFault
student_of value = do
  table ← of_kind key.Student as_table value
  account_in key.StudentName key.StudentKey table

-- the names under `owners`: an array of one or two strings
unfoldable pub names_of : Data → Result (List (List ℕ)) LabFault
names_of value = do
  items ← of_kind key.NodeOwners as_array value
  names ← each (of_kind key.NodeOwners as_str) items
  if nat_lt 0 (length names) && nat_le (length names) MAX_OWNERS then Ok names else Err (fault.WrongKind key.NodeOwners)

-- the names under `owners`, or else the one under `owner`
abbrev pub owner_names : Option (List ℕ) → Option (List (List ℕ)) → Option (List (List ℕ))
owner_names owner (Some names) = Some names
owner_names owner None = option_map (λ name. name ∷ []) owner

-- a node, the names of its owners, and whether it has both keys, `owner` and `owners`
pub record NodeSpec : Type 0 where
  pub id : ℤ
  pub owners : List (List ℕ)
  pub both : Bool
  pub p : Option ℤ
  pub m : Bool

-- an element of `node`: a table with an identifier, owners, and registers that may be left out
unfoldable pub node_of : Data → Result NodeSpec LabFault
node_of value = do
  table ← of_kind key.Node as_table value
  id ← needed key.NodeId (codes "id") as_integer table
  owner ← optional_of key.NodeOwner as_str (get_member (codes "owner") table)
  owners ← optional names_of (get_member (codes "owners") table)
  names ← ok_or (owner_names owner owners) (fault.Missing key.NodeOwner)
  p ← optional_of key.NodeP as_integer (get_member (codes "p") table)
  m ← optional_of key.NodeM as_bool (get_member (codes "m") table)
  Ok (record { id = id; owners = names; both = is_some owner && is_some owners; p = p; m = or_false m })

-- the two elements of an array that has exactly two
abbrev pub two_of : Items → Option (Data × Data)
two_of (item a (item b no_items)) = Some (a, b)
two_of _ = None

-- an element of `links`: an array of two integers
unfoldable pub link_of : Data → Result (ℤ × ℤ) LabFault
link_of value = do
  ends ← of_kind key.Link as_array value
  pair ← ok_or (two_of ends) (fault.WrongKind key.Link)
  a ← of_kind key.Link as_integer pair.0
  b ← of_kind key.Link as_integer pair.1
  Ok (a, b)

-- the links under `links`; none if the key is left out
abbrev pub links_of : Option Data → Result (List (ℤ × ℤ)) LabFault
links_of None = Ok []
links_of (Some value) = of_kind key.Links as_array value >>= λ links. each link_of links

-- the contents of a file, before its values are compared with one another
pub record RawSpec : Type 0 where
  pub events : ℤ
  pub sessions : ℤ
  pub teacher : Account
  pub students : List Account
  pub nodes : List NodeSpec
  pub links : List (ℤ × ℤ)

-- the name and key under `teacher`
unfoldable pub teacher_of : Members → Result Account LabFault
teacher_of members = do
  table ← needed key.Teacher (codes "teacher") as_table members
  account_in key.TeacherName key.TeacherKey table

-- the names and keys under `student`, in order
unfoldable pub students_of : Members → Result (List Account) LabFault
students_of members = do
  items ← needed key.Student (codes "student") as_array members
  each student_of items

-- the nodes under `node`, in order
unfoldable pub nodes_of : Members → Result (List NodeSpec) LabFault
nodes_of members = do
  items ← needed key.Node (codes "node") as_array members
  each node_of items

-- the contents of a document's table: its keys are read in the order of `Key`
unfoldable pub raw_of : Members → Result RawSpec LabFault
raw_of members = do
  events ← needed key.Events (codes "events") as_integer members
  sessions ← needed key.Sessions (codes "sessions") as_integer members
  teacher ← teacher_of members
  students ← students_of members
  nodes ← nodes_of members
  links ← links_of (get_member (codes "links") members)
  Ok (record { events = events; sessions = sessions; teacher = teacher; students = students; nodes = nodes; links = links })

-- the TOML table in the bytes, if they are TOML
unfoldable pub table_in : List ℕ → Option Members
table_in bytes = if is_utf8 bytes then parse_document bytes else None

-- the contents of a file, read from its bytes
unfoldable pub spelled : List ℕ → Result RawSpec LabFault
spelled bytes = ok_or (table_in bytes) fault.NotToml >>= raw_of
