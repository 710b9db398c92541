-- By the definitions, no bytes are refused because memory ran out.
use Rattle.std.proofs.Common.{◌≡◌, ◌≢◌, ◌⊎◌, inl, inr, ℕ, List, Option, Some, Result, Err, subst, arith}
use Rattle.std.specs.Prelude.{codes, ok_or, IfErr}
use Rattle.toml.specs.Data.{Data, Items, no_items, item, Members, as_array}
use Rattle.mml_ids.specs.Gives.{◌>>=◌}
use Rattle.mml_lab.specs.declared.lab_fault.{LabFault.LabFault, Key.Key}
use Rattle.mml_lab_file.specs.{Reading.lab_fault, Reading.lab_of, Shape.of_kind, Shape.needed, Shape.each, Shape.account_in, Shape.student_of, Shape.names_of, Shape.node_of}
use Rattle.mml_lab_file.specs.{Shape.link_of, Shape.RawSpec, Shape.links_of, Shape.teacher_of, Shape.students_of, Shape.nodes_of, Shape.raw_of, Shape.table_in, Shape.spelled}
use Rattle.mml_lab_file.proofs.{LabFaultLemmas.refuses, LabOfLemmas.no_memory, LabOfLemmas.no_memory_of_ids}
use Rattle.mml_ids.specs.declared.id_table.IdFault.TheVariants as id
use Rattle.mml_lab.specs.declared.lab_fault.LabFault.TheVariants as fault
use Rattle.mml_lab.specs.declared.lab_fault.Key.TheVariants as key

-- the error isn't that memory ran out
abbrev Tells : LabFault → Type 0
Tells fault.Memory = ⊥
Tells (fault.Id id.Memory) = ⊥
Tells _ = Unit {0}

-- if the result is an error, the error isn't that memory ran out
abbrev OfResult : {A : Type 0} → Result A LabFault → Type 0
OfResult r = IfErr r Tells

then : {A B : Type 0} (r : Result A LabFault) (f : A → Result B LabFault) → OfResult r → ((x : A) → OfResult (f x)) → OfResult (r >>= f)
then r f first rest = grind arith

or_fault : {A : Type 0} (o : Option A) (f : LabFault) → Tells f → OfResult (ok_or o f)
or_fault o f tells = grind arith

kind : {A : Type 0} (key : Key) (f : Data → Option A) (value : Data) → OfResult (of_kind key f value)
kind key f value = or_fault (f value) (fault.WrongKind key) tt

there : {A : Type 0} (key : Key) (name : List ℕ) (f : Data → Option A) (members : Members) → OfResult (needed key name f members)
there key name f members = grind (arith, then, or_fault, kind)

in_turn : {A : Type 0} (f : Data → Result A LabFault) (items : Items) → ((value : Data) → OfResult (f value)) → OfResult (each f items)
in_turn f no_items h = tt
in_turn f (item first rest) h = grind (arith, then, in_turn f rest h)

student : (value : Data) → OfResult (student_of value)
unfolding student_of account_in
student value = grind (arith, then, kind, there)

names : (value : Data) → OfResult (names_of value)
unfolding names_of
names value = grind (arith, then, kind, in_turn)

node : (value : Data) → OfResult (node_of value)
unfolding node_of
node value = grind (arith, then, kind, there, of_kind, names, or_fault)

link : (value : Data) → OfResult (link_of value)
unfolding link_of
link value = grind (arith, then, kind, or_fault)

links : (o : Option Data) → OfResult (links_of o)
links o = grind (arith, then, kind, in_turn, link)

teacher : (members : Members) → OfResult (teacher_of members)
unfolding teacher_of account_in
teacher members = grind (arith, then, there)

students : (members : Members) → OfResult (students_of members)
unfolding students_of
students members = grind (arith, then, there, in_turn, student)

nodes : (members : Members) → OfResult (nodes_of members)
unfolding nodes_of
nodes members = then (needed key.Node (codes "node") as_array members) _ (there key.Node (codes "node") as_array members) (λ items. in_turn node_of items node)

raw : (members : Members) → OfResult (raw_of members)
unfolding raw_of
raw members = grind (arith, then, there, teacher, students, nodes, links)

file : (bytes : List ℕ) → OfResult (spelled bytes)
unfolding spelled
file bytes = then (ok_or (table_in bytes) fault.NotToml) raw_of (or_fault (table_in bytes) fault.NotToml tt) raw

-- if bytes are refused with an error, it is an error of reading their contents, or the error of a file
refused : (bytes : List ℕ) (f : LabFault) → lab_of bytes ≡ Err f → (spelled bytes ≡ Err f) ⊎ ((raw : RawSpec) × (lab_fault raw ≡ Some f))
unfolding lab_of
refused bytes f = grind (arith, raw, refuses)

-- no bytes are refused because memory ran out
pub spells_no_memory : (bytes : List ℕ) → lab_of bytes ≢ Err fault.Memory
spells_no_memory bytes is = elim (refused bytes fault.Memory is) [ inl e ↦ subst OfResult e (file bytes) | inr r ↦ no_memory r.0 r.1 ]

-- no bytes are refused because memory ran out in the test of identifiers
pub spells_no_memory_of_ids : (bytes : List ℕ) → lab_of bytes ≢ Err (fault.Id id.Memory)
spells_no_memory_of_ids bytes is = elim (refused bytes (fault.Id id.Memory) is) [ inl e ↦ subst OfResult e (file bytes) | inr r ↦ no_memory_of_ids r.0 r.1 ]
