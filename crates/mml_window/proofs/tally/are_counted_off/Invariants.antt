use Rattle.std.proofs.Common.{◌≡◌, drop}
use Rattle.mml_window.specs.inside.Cursors.{left_of}
use Rattle.mml_window.proofs.tally.are_counted_off.Given as goal

abbrev pub invariant-windows : goal.invariant-windows
invariant-windows g l = left_of l.fn.windows l.fn.cursors ≡ left_of (drop l.index l.fn.windows) (drop l.index l.fn.cursors)
