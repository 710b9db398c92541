use Rattle.std.proofs.Common.{◌≡◌, ◌≤◌, ◌-◌, length, take, true}
use Rattle.mml_plain.specs.Compact.{is_bare}
use Rattle.mml_plain.proofs.compact_reading.bare_word.Given as goal

abbrev pub invariant-word : goal.invariant-word
invariant-word l = record { bound : l.end ≤ length l.text; bare : is_bare (take l.end l.text) ≡ true }

abbrev pub decreases-word : goal.decreases-word
decreases-word l = length l.text - l.end
