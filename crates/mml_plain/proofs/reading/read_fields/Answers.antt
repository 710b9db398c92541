use Rattle.mml_plain.proofs.ReadingLemmas.{object_in_is}
use Rattle.mml_plain.proofs.reading.read_fields.Goals as goal
use Rattle.std.proofs.Common.{arith}

pub returns-then-read_compact-clause-object : goal.returns-then-read_compact-clause-object
returns-then-read_compact-clause-object c = grind (arith, object_in_is)
