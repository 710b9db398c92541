use Rattle.std.proofs.Common.{length}
use Rattle.mml_plain.specs.Compact.{Spaced}
use Rattle.mml_plain.proofs.compact_reading.past_spaces.Given as goal

abbrev pub invariant-spaces : goal.invariant-spaces
invariant-spaces l = Spaced l.text l.rest

abbrev pub decreases-spaces : goal.decreases-spaces
decreases-spaces l = length l.rest
