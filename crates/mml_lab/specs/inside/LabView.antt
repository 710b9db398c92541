-- A stored lab, as contracts describe it.
use Rattle.mml_lab.specs.{declared.lab.Lab.TheInside.Inside, Labs.LabValue, Labs.IsLab}

-- the lab as contracts describe it, computed from the fields
abbrev pub lab_view : Inside → LabValue
lab_view a = record {
  ids = a.ids;
  roster = a.roster;
  network = a.network;
  events = a.events;
  sessions = a.sessions;
}

-- the stored fields make up a lab
abbrev pub IsLabInside : Inside → Type 0
IsLabInside a = IsLab (lab_view a)
