use Rattle.std.proofs.Common.{◌≡◌, ◌≤◌}
use Rattle.mml_rules.specs.Network.{configuration_of}
use Rattle.mml_ids.specs.Search.{count_below}
use Rattle.mml_lab.proofs.lab.neighbours_below.Given as goal

abbrev pub invariant-loop-index : goal.invariant-loop-index
invariant-loop-index l = record { count : l.count ≡ count_below l.index ((configuration_of l.network).linked l.node); few : l.count ≤ l.index }
