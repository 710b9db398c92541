use Rattle.std.proofs.Common.{◌≡◌, ℕ, ◌≤◌, length}
use Rattle.serde_json.specs.Data.{Members, object, no_members}
use Rattle.mml_plain.specs.{Reading.members_at, Holds.Holds}
use Rattle.mml_plain.proofs.reading.read_members.Given as goal

abbrev pub invariant-members : goal.invariant-members
invariant-members l = (n : ℕ) × (found : Members) × (length l.reader ≤ n)
    × (members_at 126 no_members (length l.initial.reader) l.initial.reader ≡ members_at 126 found n l.reader) × Holds l.fields (object found)

abbrev pub decreases-members : goal.decreases-members
decreases-members l = length l.reader
