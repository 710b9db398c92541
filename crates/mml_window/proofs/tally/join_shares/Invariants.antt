use Rattle.std.{proofs.Common.◌≡◌, proofs.Common.◌++◌, proofs.Common.List, proofs.Common.length, specs.Prelude.All}
use Rattle.mml_window.specs.{Windows.WindowValue, Windows.IsWindow, inside.Shares.AreJoined}
use Rattle.mml_window.proofs.tally.join_shares.Given as goal

-- the shares of the windows that are left aren't merged yet, and those of the other windows are
abbrev pub invariant-loop-window : goal.invariant-loop-window
invariant-loop-window g l = (done : List WindowValue) × (l.fn.windows.items ≡ l.windows.items ++ done) × All (IsWindow g.H.House.lab) done
    × AreJoined done l.all.halts.amount l.all.halts.parts l.all.spares.amount l.all.spares.parts l.all.grants.amount

abbrev pub decreases-loop-window : goal.decreases-loop-window
decreases-loop-window g l = length l.windows.items
