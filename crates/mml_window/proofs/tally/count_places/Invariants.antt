use Rattle.std.proofs.Common.{◌≡◌, ◌≤◌, ◌*◌, ◌+◌, length, drop}
use Rattle.mml_lab.specs.declared.TheConstants.{MAX_EVENTS}
use Rattle.mml_window.specs.Tallies.{told_of}
use Rattle.mml_window.proofs.tally.count_places.Given as goal

abbrev pub invariant-windows : goal.invariant-windows
invariant-windows g l = (l.count + length (told_of (drop l.index l.fn.windows)) ≡ length (told_of l.fn.windows)) × (l.count ≤ l.index * MAX_EVENTS)
