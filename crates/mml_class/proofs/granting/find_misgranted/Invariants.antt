use Rattle.std.proofs.Common.{◌≡◌, ◌+◌, ◌≤◌, ℕ, length, take}
use Rattle.mml_window.specs.Tallies.{times, once_from}
use Rattle.mml_class.specs.inside.Marking.{marked}
use Rattle.mml_class.proofs.granting.find_misgranted.Given as goal

abbrev pub invariant-places : goal.invariant-places
invariant-places l = record {
  length : length l.marks.items ≡ l.count + 1;
  counted : (p : ℕ) → marked l.marks.items p ≡ times p (take l.place-index l.places);
  fine : (p : ℕ) → marked l.marks.items p ≤ once_from l.begun l.count p;
}
