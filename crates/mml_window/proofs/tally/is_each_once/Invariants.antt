use Rattle.mml_window.specs.{Tallies.told_of, inside.Cursors.left_of}
use Rattle.mml_window.proofs.TallyLemmas.{IsCounted}
use Rattle.mml_window.proofs.tally.is_each_once.Given as goal

abbrev pub invariant-places : goal.invariant-places
invariant-places g l = IsCounted l.fn.first l.counted (told_of l.fn.windows) (left_of l.fn.windows l.cursors)
