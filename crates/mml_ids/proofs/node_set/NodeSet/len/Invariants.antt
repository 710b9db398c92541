use Rattle.std.proofs.Common.{◌≡◌, ◌≤◌, ◌*◌}
use Rattle.std.specs.FinSet as sets
use Rattle.mml_ids.specs.inside.Words.{set_of}
use Rattle.mml_ids.proofs.node_set.NodeSet.len.Given as goal

abbrev pub invariant-loop-word : goal.invariant-loop-word
invariant-loop-word l = record { count : l.count ≡ sets.len (set_of (64 * l.word-index) l.word-items); few : l.count ≤ 64 * l.word-index }
