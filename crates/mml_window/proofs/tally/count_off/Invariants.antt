use Rattle.std.proofs.Common.{◌≡◌, drop}
use Rattle.mml_window.specs.inside.Cursors.{left_of, IsStuck}
use Rattle.mml_window.proofs.tally.count_off.Given as goal

abbrev pub invariant-windows : goal.invariant-windows
invariant-windows g l =
    (IsStuck l.fn.place (left_of (drop l.index l.fn.windows) (drop l.index l.fn.cursors))
    → IsStuck l.fn.place (left_of l.fn.windows l.fn.cursors)) × (l.cursors ≡ l.fn.cursors)
