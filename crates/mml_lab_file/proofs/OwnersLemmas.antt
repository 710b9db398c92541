-- Each node of a lab that is read from bytes has one owner or two different owners.
use Rattle.std.proofs.lemmas.Bool.{Decides.nat_tests, and_parts, both_ways, ltb-true, leb-true}
use Rattle.std.proofs.Common.{◌≡◌, ◌≢◌, ℕ, ◌<◌, ◌≤◌, true, false, nat_lt, nat_le, List, [], ◌∷◌, length, map, None, Some, Result, Ok, subst, arith, All, sym}
use Rattle.std.specs.{Prelude.codes, Prelude.position, Prelude.slice_index, Prelude.bytes_eq, List.list_any}
use Rattle.std.proofs.lemmas.{List.length-map, List.Quantifiers.position-Some, Slice.Eq.bytes_eq-Decides, List.Elements.All-contains}
use Rattle.toml.specs.Data.{Data, Items, no_items, item, as_array, Members}
use Rattle.mml_ids.proofs.{GivesLemmas.bind-ok}
use Rattle.mml_lab.specs.{declared.lab_fault.LabFault.LabFault, Rosters.has_name, Rosters.no_account, Rosters.owners_of, Rosters.Account, Labs.LabValue}
use Rattle.mml_lab_file.specs.Shape.{NodeSpec, RawSpec, needed, each, names_of, node_of, nodes_of, raw_of, spelled}
use Rattle.mml_lab_file.specs.Reading.{lab_fault, are_one_twice, student_index, lab_in, lab_of, lacks_owner}
use Rattle.mml_lab_file.proofs.{LabFaultLemmas.faultless, LabInLemmas.ids, LabInLemmas.node_at, LabInLemmas.index-position, LabInLemmas.owners-known, LabOfLemmas.of_file}
use Rattle.mml_lab_file.proofs.LabInLemmas.{fails, owners-found}
use Rattle.mml_lab.specs.declared.lab_fault.Key.TheVariants as key

abbrev pub IsOneOrTwo : ℕ → Type 0
IsOneOrTwo n = (0 < n) × (n ≤ 2)

abbrev HasOneOrTwo : NodeSpec → Type 0
HasOneOrTwo node = IsOneOrTwo (length node.owners)

-- ---- the owners that are read

each_ok : {A : Type 0} (P : A → Type 0) (f : Data → Result A LabFault) → ((v : Data) (x : A) → f v ≡ Ok x → P x) → (items : Items) (xs : List A)
    → each f items ≡ Ok xs → All P xs
each_ok P f h no_items [] e k d lt = absurd (omega arith)
each_ok P f h no_items (x ∷ xs) e k d lt = absurd cc
each_ok {A} P f h (item first rest) xs e k d lt = grind (arith, bind-ok, each_ok P f h rest)

names_ok : (value : Data) (names : List (List ℕ)) → names_of value ≡ Ok names → IsOneOrTwo (length names)
unfolding names_of
names_ok value names e = grind (arith, bind-ok, and_parts, ltb-true, leb-true, nat_lt, nat_le)

node_ok : (value : Data) (node : NodeSpec) → node_of value ≡ Ok node → HasOneOrTwo node
unfolding node_of
node_ok value node e = grind (arith, bind-ok, names_ok)

nodes_in : (members : Members) (nodes : List NodeSpec) → nodes_of members ≡ Ok nodes → All HasOneOrTwo nodes
unfolding nodes_of
nodes_in members nodes e =
    let items = bind-ok (needed key.Node (codes "node") as_array members) _ nodes e in each_ok HasOneOrTwo node_of node_ok items.0 nodes items.2

nodes_ok : (bytes : List ℕ) (raw : RawSpec) → spelled bytes ≡ Ok raw → All HasOneOrTwo raw.nodes
unfolding spelled raw_of
nodes_ok bytes raw e k d lt = grind (arith, bind-ok, nodes_in)

-- ---- the owners by rank

index_apart : (students : List Account) (a b : List ℕ) → position (has_name a) students ≡ Some (student_index students a)
    → position (has_name b) students ≡ Some (student_index students b) → bytes_eq a b ≡ false → student_index students a ≢ student_index students b
index_apart students a b at_a at_b apart same =
    let x = (position-Some (has_name a) students (student_index students a) no_account at_a).1 in
    grind (arith, nat_tests, position-Some, bytes_eq-Decides, both_ways)

apart_in : (students : List Account) (os : List (List ℕ)) → All (λ name. list_any (has_name name) students ≡ true) os → are_one_twice os ≡ false → length os ≤ 2
    → (j k : ℕ) → j < k → k < length (map (student_index students) os)
    → slice_index (map (student_index students) os) j ≢ slice_index (map (student_index students) os) k
apart_in students os known apart few j k less lt = grind (arith, index_apart, index-position, length-map)

-- one owner or two different owners
record AreOwners (owners : List ℕ) : Type 0 where
  few : IsOneOrTwo (length owners)
  differ : (j k : ℕ) → j < k → k < length owners → slice_index owners j ≢ slice_index owners k

owners_in_file : (bytes : List ℕ) (raw : RawSpec) (i : ℕ) → spelled bytes ≡ Ok raw → lab_fault raw ≡ None → i < length (lab_in raw).ids
    → AreOwners (owners_of (lab_in raw).roster i)
unfolding lab_in
owners_in_file bytes raw i spells none lt =
    let right = faultless raw none in
    let n = node_at raw right i lt in
    let few = All-contains HasOneOrTwo raw.nodes n.0 (nodes_ok bytes raw spells) n.1.stands in
    let known = owners-known raw.students n.0 (fails (lacks_owner raw.students) raw.nodes n.0 right.owners n.1.stands) in
    let apart = fails (λ (node : NodeSpec). are_one_twice node.owners) raw.nodes n.0 right.apart n.1.stands in
    subst AreOwners (sym (owners-found raw right i n.0 [] lt n.1.found))
    (record { few = rw (length-map n.0.owners (student_index raw.students)) few; differ = apart_in raw.students n.0.owners known apart few.1 })

are_owners : (bytes : List ℕ) (lab : LabValue) (i : ℕ) → lab_of bytes ≡ Ok lab → i < length lab.ids → AreOwners (owners_of lab.roster i)
are_owners bytes lab i is lt = let file = (of_file bytes lab).0 is in grind (arith, nat_tests, owners_in_file)

-- each node of a lab that is read from bytes has one or two owners
pub one_or_two : (bytes : List ℕ) (lab : LabValue) (i : ℕ) → lab_of bytes ≡ Ok lab → i < length lab.ids
    → (0 < length (owners_of lab.roster i)) × (length (owners_of lab.roster i) ≤ 2)
one_or_two bytes lab i is lt = (are_owners bytes lab i is lt).few

-- no student is twice among the owners of a node
pub owners_differ : (bytes : List ℕ) (lab : LabValue) (i j k : ℕ) → lab_of bytes ≡ Ok lab → i < length lab.ids → j < k → k < length (owners_of lab.roster i)
    → slice_index (owners_of lab.roster i) j ≢ slice_index (owners_of lab.roster i) k
owners_differ bytes lab i j k is lt less within = (are_owners bytes lab i is lt).differ j k less within
