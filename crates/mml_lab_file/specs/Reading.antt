-- The lab that a file describes, or the file's first error.
use Rattle.std.specs.Prelude.{ℕ, zero, ℤ, pos, negsuc, Bool, false, not, ◌&&◌, ◌||◌, nat_lt, nat_le, List, [], ◌∷◌, length, map, take, slice_index, slice_index_or, position, bytes_eq, Option, Some}
use Rattle.std.specs.Prelude.{None, option_map, unwrap_or, ◌==◌, Result, Ok, Err}
use Rattle.std.specs.{List.list_any, List.find, List.slice_get, Option.option_map_or, Option.option_and_then, Ordering.nat_cmp, Ordering.int_eq, FinSet.FinSet}
use Rattle.mml_ids.specs.{Gives.need, Gives.unless_fault, Gives.◌>>=◌, Gives.◌>>◌, Search.first_below, Sets.those_below, Ids.id_fault, Ids.in_order, Ids.rank_in}
use Rattle.mml_rules.specs.{declared.regs.Regs.Regs, Network.Network, Network.no_regs}
use Rattle.mml_lab.specs.declared.{TheConstants.MAX_EVENTS, TheConstants.MAX_SESSIONS, TheConstants.MAX_STUDENTS, lab_fault.LabFault.LabFault}
use Rattle.mml_lab.specs.{Rosters.Account, Rosters.is_account, Rosters.has_name, Rosters.no_account, Rosters.with_owners, Labs.LabValue}
use Rattle.mml_lab_file.specs.Shape.{NodeSpec, RawSpec, spelled}
use Rattle.mml_lab.specs.declared.lab_fault.LabFault.TheVariants as fault
use Rattle.mml_lab.specs.declared.lab_fault.Key.TheVariants as key

-- the number, or 0 if it is negative
abbrev pub number_of : ℤ → ℕ
number_of (pos n) = n
number_of (negsuc n) = 0

-- the identifiers of the nodes in file order
abbrev pub file_ids : List NodeSpec → List ℕ
file_ids nodes = map (λ node. number_of node.id) nodes

-- some node has that identifier
abbrev pub is_node : List NodeSpec → ℤ → Bool
is_node nodes id = list_any (λ node. int_eq node.id id) nodes

-- the link has these two ends, in either order
abbrev pub joins : ℤ → ℤ → ℤ × ℤ → Bool
joins a b link = (int_eq link.0 a && int_eq link.1 b) || (int_eq link.0 b && int_eq link.1 a)

-- some link has these two ends
abbrev pub is_linked : List (ℤ × ℤ) → ℤ → ℤ → Bool
is_linked links a b = list_any (joins a b) links

-- some owner isn't a student
abbrev pub lacks_owner : List Account → NodeSpec → Bool
lacks_owner students node = list_any (λ name. not (list_any (has_name name) students)) node.owners

-- the list has exactly two names, which are the same
abbrev pub are_one_twice : List (List ℕ) → Bool
are_one_twice (a ∷ b ∷ []) = bytes_eq a b
are_one_twice _ = false

-- an end of the link isn't a node
abbrev pub lacks_end : List NodeSpec → ℤ × ℤ → Bool
lacks_end nodes link = not (is_node nodes link.0 && is_node nodes link.1)

-- both ends of the link are the same
abbrev pub is_loop : ℤ × ℤ → Bool
is_loop link = int_eq link.0 link.1

-- the link at index i joins the same two nodes as an earlier link
abbrev pub is_link_again : List (ℤ × ℤ) → ℕ → Bool
is_link_again links i = option_map_or (λ link. is_linked (take i links) link.0 link.1) (slice_get links i) false

-- the node points at an identifier to which no link joins it
abbrev pub points_at_unlinked : List (ℤ × ℤ) → NodeSpec → Bool
points_at_unlinked links node = option_map_or (λ p. not (is_linked links node.id p)) node.p false

-- the number is from 1 to the greatest
abbrev pub is_within : ℕ → ℤ → Bool
is_within greatest n = nat_lt 0 (number_of n) && nat_le (number_of n) greatest

-- the error of the first node with both keys, `owner` and `owners`, if there is one
unfoldable pub both_fault : List NodeSpec → Option LabFault
both_fault nodes = option_map fault.BothOwners (position (λ node. node.both) nodes)

-- the name at this index of the list occurs at a lower index too
abbrev pub is_name_again : List Account → ℕ → Bool
is_name_again accounts k = list_any (has_name (slice_index_or accounts k no_account).name) (take k accounts)

-- the error of the first account with the name of an earlier one, if there is one; the teacher's account is at index 0
abbrev pub name_twice : List Account → Option LabFault
name_twice accounts = option_map fault.NameTwice (first_below (is_name_again accounts) (length accounts))

-- the first error that keeps the nodes' identifiers from being a table, if there is one
unfoldable pub ids_fault : List NodeSpec → Option LabFault
ids_fault nodes = option_map fault.Id (id_fault (file_ids nodes))

-- the error of the first account whose name or key isn't well-formed, if there is one; the teacher's account is at
-- index 0
unfoldable pub forms_fault : List Account → Option LabFault
forms_fault accounts = option_map fault.Name (position (λ a. not (is_account a)) accounts)

-- the error of the first node with an owner who isn't a student, if there is one
unfoldable pub no_owner_fault : List Account → List NodeSpec → Option LabFault
no_owner_fault students nodes = option_map fault.NoOwner (position (lacks_owner students) nodes)

-- the error of the first node whose two owners are the same student, if there is one
unfoldable pub owner_twice_fault : List NodeSpec → Option LabFault
owner_twice_fault nodes = option_map fault.OwnerTwice (position (λ node. are_one_twice node.owners) nodes)

-- the error of the first link with an end that isn't a node, if there is one
unfoldable pub ends_fault : List NodeSpec → List (ℤ × ℤ) → Option LabFault
ends_fault nodes links = option_map fault.LinkEnd (position (lacks_end nodes) links)

-- the error of the first link that joins a node to itself, if there is one
unfoldable pub loops_fault : List (ℤ × ℤ) → Option LabFault
loops_fault links = option_map fault.Loop (position is_loop links)

-- the error of the first link that joins the same two nodes as an earlier one, if there is one
unfoldable pub again_fault : List (ℤ × ℤ) → Option LabFault
again_fault links = option_map fault.LinkTwice (first_below (is_link_again links) (length links))

-- the error of the first node whose pointer leads along no link, if there is one
unfoldable pub pointers_fault : List (ℤ × ℤ) → List NodeSpec → Option LabFault
pointers_fault links nodes = option_map fault.BadPointer (position (points_at_unlinked links) nodes)

-- success, or failure with the error if there is one
abbrev pub pass_unless : Option LabFault → Result (Unit {0}) LabFault
pass_unless fault = unless_fault fault tt

-- the test of the nodes: none has both keys `owner` and `owners`, and their identifiers are a table
unfoldable pub identified : List NodeSpec → Result (Unit {0}) LabFault
identified nodes = do
  pass_unless (both_fault nodes)
  pass_unless (ids_fault nodes)

-- the test of the participants: all names and keys are well-formed, and no name occurs twice
unfoldable pub enrolled : Account → List Account → Result (Unit {0}) LabFault
enrolled teacher students = do
  pass_unless (forms_fault (teacher ∷ students))
  pass_unless (name_twice (teacher ∷ students))

-- the test of the owners: all are students, and the two owners of a node are different
unfoldable pub owned : List Account → List NodeSpec → Result (Unit {0}) LabFault
owned students nodes = do
  pass_unless (no_owner_fault students nodes)
  pass_unless (owner_twice_fault nodes)

-- the test of the links: both ends are nodes, they are different, and no link joins the same two nodes as an earlier
-- one
unfoldable pub linked : List NodeSpec → List (ℤ × ℤ) → Result (Unit {0}) LabFault
linked nodes links = do
  pass_unless (ends_fault nodes links)
  pass_unless (loops_fault links)
  pass_unless (again_fault links)

-- the test of the limits: the numbers of events, of sessions and of students are within their ranges
unfoldable pub limited : ℤ → ℤ → ℕ → Result (Unit {0}) LabFault
limited events sessions students = do
  need (is_within MAX_EVENTS events) (fault.Limit key.Events)
  need (is_within MAX_SESSIONS sessions) (fault.Limit key.Sessions)
  need (nat_le students MAX_STUDENTS) (fault.Limit key.Student)

-- the tests of a file, in the order in which errors are reported; each test covers the whole file before the next
-- begins
unfoldable pub checked : RawSpec → Result (Unit {0}) LabFault
checked raw = do
  identified raw.nodes
  enrolled raw.teacher raw.students
  owned raw.students raw.nodes
  linked raw.nodes raw.links
  pass_unless (pointers_fault raw.links raw.nodes)
  limited raw.events raw.sessions (length raw.students)

-- the error of the result, if it is an error
abbrev pub error_of : {A E : Type 0} → Result A E → Option E
error_of (Ok x) = None
error_of (Err e) = Some e

-- the first error of a file, if it has one
abbrev pub lab_fault : RawSpec → Option LabFault
lab_fault raw = error_of (checked raw)

-- the first node of the file with that identifier, if there is one
abbrev pub node_with : List NodeSpec → ℕ → Option NodeSpec
node_with nodes id = find (λ node. number_of node.id == id) nodes

-- the ranks of the nodes that a link of the file joins to the node with that identifier
unfoldable pub neighbours_of : List ℕ → List (ℤ × ℤ) → ℕ → FinSet nat_cmp
neighbours_of ids links id = those_below (length ids) (λ rank. is_linked links (pos id) (pos (slice_index ids rank)))

-- the registers that the file has for a node: p is the rank of the node that it points at, if it points at one
abbrev pub registers_in : List ℕ → NodeSpec → Regs
registers_in ids node = record { p = option_and_then (λ p. rank_in ids (number_of p)) node.p; m = node.m }

-- the index of the first student with that name; 0 if there is none, which is an error of the file
abbrev pub student_index : List Account → List ℕ → ℕ
student_index students name = unwrap_or (position (has_name name) students) 0

-- the indexes of a node's owners among the students
abbrev pub owners_in : List Account → NodeSpec → List ℕ
owners_in students node = map (student_index students) node.owners

-- the registers of the node with that identifier; null and false if there is none
abbrev pub registers_with : List ℕ → List NodeSpec → ℕ → Regs
registers_with ids nodes id = option_map_or (registers_in ids) (node_with nodes id) no_regs

-- the owners of the node with that identifier; none if there is no such node
abbrev pub owners_with : List Account → List NodeSpec → ℕ → List ℕ
owners_with students nodes id = option_map_or (owners_in students) (node_with nodes id) []

-- the links and registers of the file, by rank
unfoldable pub network_in : List ℕ → RawSpec → Network
network_in ids raw = record { neighbours = map (neighbours_of ids raw.links) ids; registers = map (registers_with ids raw.nodes) ids }

-- the lab of a file that has no error
unfoldable pub lab_in : RawSpec → LabValue
lab_in raw = let ids = in_order (file_ids raw.nodes) in record {
  ids = ids;
  roster = with_owners raw.teacher raw.students (map (owners_with raw.students raw.nodes) ids);
  network = network_in ids raw;
  events = number_of raw.events;
  sessions = number_of raw.sessions;
}

-- the lab of a file, or its first error
unfoldable pub lab_from : RawSpec → Result LabValue LabFault
lab_from raw = do
  checked raw
  Ok (lab_in raw)

-- the lab that the bytes of a file describe, or the file's first error
unfoldable pub lab_of : List ℕ → Result LabValue LabFault
lab_of bytes = spelled bytes >>= lab_from
