use Rattle.std.proofs.Common.{◌≡◌, ◌+◌, ◌≤◌, drop}
use Rattle.mml_tally.specs.inside.Closes.{count_new}
use Rattle.mml_tally.proofs.marks.count_applying_closes.Given as goal

abbrev pub invariant-loop-granted : goal.invariant-loop-granted
invariant-loop-granted l = record { closes : l.closes + count_new l.last (drop l.granted-index l.own) ≡ count_new 0 l.own; few : l.closes ≤ l.granted-index }
