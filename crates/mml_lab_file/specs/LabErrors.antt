-- The errors of a lab file in their order.
use Rattle.std.specs.Prelude.{◌≡◌, ℕ, ◌<◌, not, nat_lt, List, [], ◌∷◌, length, Option, Some, None}
use Rattle.std.specs.List.{slice_get}
use Rattle.mml_ids.specs.Gives.{fault_if}
use Rattle.mml_lab.specs.declared.{TheConstants.MAX_EVENTS, TheConstants.MAX_SESSIONS, TheConstants.MAX_STUDENTS, lab_fault.LabFault.LabFault}
use Rattle.mml_lab_file.specs.Shape.{RawSpec}
use Rattle.mml_lab_file.specs.Reading.{name_twice, is_within, both_fault, ids_fault, forms_fault, no_owner_fault, owner_twice_fault, ends_fault, loops_fault, again_fault, pointers_fault}
use Rattle.mml_lab.specs.declared.lab_fault.LabFault.TheVariants as fault
use Rattle.mml_lab.specs.declared.lab_fault.Key.TheVariants as key

-- the index of an error, from 0, in the order in which the errors of a file are reported. Any other error has the index
-- 13: that the file isn't TOML, that a key is missing or of another kind, or that memory ran out
abbrev pub order_of : LabFault → ℕ
order_of (fault.BothOwners i) = 0
order_of (fault.Id f) = 1
order_of (fault.Name i) = 2
order_of (fault.NameTwice i) = 3
order_of (fault.NoOwner i) = 4
order_of (fault.OwnerTwice i) = 5
order_of (fault.LinkEnd i) = 6
order_of (fault.Loop i) = 7
order_of (fault.LinkTwice i) = 8
order_of (fault.BadPointer i) = 9
order_of (fault.Limit key.Events) = 10
order_of (fault.Limit key.Sessions) = 11
order_of (fault.Limit key.Student) = 12
order_of _ = 13

-- for each kind of error, in the order of `order_of`, the first one that the file has, if it has one
abbrev pub errors_of : RawSpec → List (Option LabFault)
errors_of raw =
    both_fault raw.nodes
    ∷ ids_fault raw.nodes
    ∷ forms_fault (raw.teacher ∷ raw.students)
    ∷ name_twice (raw.teacher ∷ raw.students)
    ∷ no_owner_fault raw.students raw.nodes
    ∷ owner_twice_fault raw.nodes
    ∷ ends_fault raw.nodes raw.links
    ∷ loops_fault raw.links
    ∷ again_fault raw.links
    ∷ pointers_fault raw.links raw.nodes
    ∷ fault_if (not (is_within MAX_EVENTS raw.events)) (fault.Limit key.Events)
    ∷ fault_if (not (is_within MAX_SESSIONS raw.sessions)) (fault.Limit key.Sessions)
    ∷ fault_if (nat_lt MAX_STUDENTS (length raw.students)) (fault.Limit key.Student)
    ∷ []

-- the file has this error, and none that comes before it in the order
pub record IsFirstError (raw : RawSpec) (f : LabFault) : Type 0 where
  pub here : slice_get (errors_of raw) (order_of f) ≡ Some (Some f)
  pub before : (k : ℕ) → k < order_of f → slice_get (errors_of raw) k ≡ Some None
