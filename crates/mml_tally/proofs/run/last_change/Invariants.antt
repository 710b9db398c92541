use Rattle.std.proofs.Common.{◌≡◌, ◌+◌, ◌≤◌, drop}
use Rattle.mml_tally.specs.Runs.{last_change}
use Rattle.mml_tally.proofs.run.last_change.Given as goal

abbrev pub invariant-loop-index : goal.invariant-loop-index
invariant-loop-index l = record { last : last_change l.last (l.index + 1) (drop l.index l.events) ≡ last_change 0 1 l.events; within : l.last ≤ l.index }
