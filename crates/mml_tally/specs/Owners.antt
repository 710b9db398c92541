-- The nodes that several students own.
use Rattle.std.specs.Prelude.{ℕ, Bool, nat_lt, List, length}
use Rattle.mml_lab.specs.declared.who.Who.TheVariants as who
use Rattle.mml_lab.specs.Rosters.{RosterValue, owns}
use Rattle.mml_stable.specs.Reports.{each_below, listed_if}

-- the students who own the node, in the lab's order
abbrev pub owners_in_order : RosterValue → ℕ → List ℕ
owners_in_order r i = each_below (length r.students) (λ s. listed_if (owns r (who.Student s) i) s)

-- whether more than one student owns the node
abbrev pub is_shared : RosterValue → ℕ → Bool
is_shared r i = nat_lt 1 (length (owners_in_order r i))
