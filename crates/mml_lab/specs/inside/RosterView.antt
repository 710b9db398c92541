-- A stored roster, as contracts describe it.
use Rattle.std.specs.Prelude.{map, length}
use Rattle.mml_lab.specs.{declared.roster.Roster.TheInside.Inside, AccountView.account_view, AccountView.entry_account, inside.Owned.AreOwned}
use Rattle.mml_lab.specs.Rosters.{RosterValue, IsRoster, with_owners}

-- the roster as contracts describe it, computed from the fields
abbrev pub roster_view : Inside → RosterValue
roster_view a = with_owners (account_view a.teacher) (map entry_account a.students.entries) (map (λ v. v.items) a.owners.items)

-- the roster is lawful, and each student has a row with the nodes that the student owns
pub record IsRosterInside (a : Inside) : Type 0 where
  pub lawful : IsRoster (roster_view a)
  pub rows : AreOwned (length (roster_view a).students) (roster_view a).owners a.owned.items
