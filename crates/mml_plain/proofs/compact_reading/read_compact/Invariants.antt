use Rattle.std.proofs.Common.{length}
use Rattle.serde_json.specs.Data.{Members, object}
use Rattle.mml_plain.specs.Holds.{Holds}
use Rattle.mml_plain.proofs.CompactLemmas.{Before}
use Rattle.mml_plain.proofs.compact_reading.read_compact.Given as goal

abbrev pub invariant-members : goal.invariant-members
invariant-members l = (found : Members) × Before l.line l.rest found × Holds l.fields (object found)

abbrev pub decreases-members : goal.decreases-members
decreases-members l = length l.rest
