-- The name and the lab of a house, as contracts describe them. A house is one run of a lab that threads share: its list
-- of granted events, the board after them, and their journal.
use Rattle.std.specs.Prelude.{ℕ, List, []}
use Rattle.mml_lab.specs.{Labs.LabValue, Rosters.no_account}
use Rattle.mml_board.specs.declared.event.Event.{Event}

-- the name of a house: those of its three ledgers, two for refusals and one for grants, and how many events came before
-- the house was opened
pub record HouseName : Type 0 where
  pub halts : ℕ
  pub spares : ℕ
  pub grants : ℕ
  pub first : ℕ

-- the name that consists of those of three ledgers, and of a number of events
abbrev pub name_of : ℕ → ℕ → ℕ → ℕ → HouseName
name_of halts spares grants first = record { halts = halts; spares = spares; grants = grants; first = first }

-- a house: its name and its lab
pub record HouseValue : Type 0 where
  pub name : HouseName
  pub lab : LabValue

-- the house of this name and lab
abbrev pub house_of : HouseName → LabValue → HouseValue
house_of name lab = record { name = name; lab = lab }

-- a house that continues a run: its name, its lab, and the events that came before it was opened
pub record ResumedValue : Type 0 where
  pub name : HouseName
  pub lab : LabValue
  pub begun : List Event

-- the house of this name and lab that continues the run of these events
abbrev pub resumed_of : HouseName → LabValue → List Event → ResumedValue
resumed_of name lab begun = record { name = name; lab = lab; begun = begun }

-- a name that no house has
abbrev pub no_name : HouseName
no_name = name_of 0 0 0 0

-- the lab of the house with this name: it has no nodes
abbrev pub no_lab : LabValue
no_lab = record {
  ids = [];
  roster = record { teacher = no_account; students = []; owners = [] };
  network = record { neighbours = []; registers = [] };
  events = 0;
  sessions = 0;
}
