use Rattle.std.proofs.Common.{◌≡◌, ◌+◌, ℕ, length}
use Rattle.mml_class.specs.inside.Marking.{marked}
use Rattle.mml_class.proofs.granting.no_marks.Given as goal

abbrev pub invariant-places : goal.invariant-places
invariant-places l = record { length : length l.marks.items ≡ l.counter + 1; unset : (p : ℕ) → marked l.marks.items p ≡ 0 }
