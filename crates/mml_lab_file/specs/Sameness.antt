-- Two labs that agree in everything that a journal depends on. Keys and limits may differ.
use Rattle.std.specs.Prelude.{◌≡◌, ◌<◌, ℕ, List, length, Ok}
use Rattle.mml_rules.specs.Network.{neighbours_at, registers_at}
use Rattle.mml_lab.specs.{Rosters.RosterValue, Rosters.name_of, Rosters.owns, Labs.LabValue}
use Rattle.mml_lab_file.specs.Reading.{lab_of}
use Rattle.std.specs.FinSet as set
use Rattle.mml_lab.specs.declared.who.Who.TheVariants as who

-- the node of that rank has the same links in both labs
abbrev pub HasSameLinks : LabValue → LabValue → ℕ → Type 0
HasSameLinks a b i = (j : ℕ) → j < length a.ids → set.contains (neighbours_at a.network.neighbours i) j ≡ set.contains (neighbours_at b.network.neighbours i) j

-- the node of that rank is owned by the same students in both rosters
abbrev pub HasSameOwners : RosterValue → RosterValue → ℕ → Type 0
HasSameOwners a b i = (s : ℕ) → s < length a.students → owns a (who.Student s) i ≡ owns b (who.Student s) i

-- both have the teacher's name and the students' names, in the same order
abbrev pub HasSameNames : RosterValue → RosterValue → Type 0
HasSameNames a b = (name_of a who.Teacher ≡ name_of b who.Teacher) × (length a.students ≡ length b.students)
    × ((s : ℕ) → s < length a.students → name_of a (who.Student s) ≡ name_of b (who.Student s))

-- the node of that rank has the same registers, links and owners in both labs
pub record IsSameNode (a b : LabValue) (i : ℕ) : Type 0 where
  pub registers : registers_at a.network.registers i ≡ registers_at b.network.registers i
  pub links : HasSameLinks a b i
  pub owners : HasSameOwners a.roster b.roster i

-- the labs have the same identifiers and names, and each node is the same in both
pub record IsSameLab (a b : LabValue) : Type 0 where
  pub ids : a.ids ≡ b.ids
  pub names : HasSameNames a.roster b.roster
  pub nodes : (i : ℕ) → i < length a.ids → IsSameNode a b i

-- the bytes describe a lab that is the same as the given one in everything that a journal depends on
abbrev pub SpellsSame : LabValue → List ℕ → Type 0
SpellsSame lab bytes = (other : LabValue) × (lab_of bytes ≡ Ok other) × IsSameLab lab other
