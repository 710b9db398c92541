use Rattle.std.proofs.Common.{◌≡◌, ◌≤◌, ◌*◌}
use Rattle.mml_rules.specs.Network.{configuration_of}
use Rattle.mml_lab.specs.Labs.{links_below}
use Rattle.mml_lab.proofs.lab.link_count.Given as goal

abbrev pub invariant-loop-index : goal.invariant-loop-index
invariant-loop-index l = record { count : l.count ≡ links_below (configuration_of l.network) l.index; few : l.count ≤ 256 * l.index }
