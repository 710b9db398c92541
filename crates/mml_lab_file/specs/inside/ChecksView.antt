-- The results of checking a file, as a lab.
use Rattle.std.specs.Prelude.{List, map}
use Rattle.mml_lab.specs.{declared.accounts.Account.Account, Labs.LabValue, AccountView.account_view, AccountView.entry_account}
use Rattle.mml_lab_file.specs.{declared.raw_lab.RawNode.RawNode, declared.checks.Checked.Checked, declared.checks.Found.Found, inside.Raw.node_view, inside.Checks.lab_with}

-- the lab of a file that was checked
abbrev pub checked_view : Checked → LabValue
checked_view c =
    lab_with c.ids (account_view c.teacher) (map entry_account c.students.entries) (map node_view c.nodes.items) c.neighbours.items c.events c.sessions

-- the lab made of the results of the checks and of the file's teacher and nodes
abbrev pub found_view : Account → List RawNode → Found → LabValue
found_view teacher nodes f =
    lab_with f.ids (account_view teacher) (map entry_account f.students.entries) (map node_view nodes) f.neighbours.items f.events f.sessions
