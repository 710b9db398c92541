-- The contents of a lab file, as contracts describe them: a text is the list of its bytes.
use Rattle.std.specs.Prelude.{map, string_bytes}
use Rattle.mml_lab_file.specs.{declared.raw_lab.RawNode.RawNode, declared.raw_lab.RawLab.RawLab, Shape.NodeSpec, Shape.RawSpec}
use Rattle.mml_lab.specs.AccountView.{account_view}

-- a node of the file, with the bytes of its owners' names
abbrev pub node_view : RawNode → NodeSpec
node_view n = record { id = n.id; owners = map string_bytes n.owners.items; both = n.both; p = n.p; m = n.m }

-- the contents of a file, with bytes for its texts
abbrev pub raw_view : RawLab → RawSpec
raw_view r = record {
  events = r.bounds.events;
  sessions = r.bounds.sessions;
  teacher = account_view r.teacher;
  students = map account_view r.students.items;
  nodes = map node_view r.nodes.items;
  links = r.links.items;
}
