use Rattle.std.proofs.Common.{◌≡◌, ℕ, ◌<◌, get_or}
use Rattle.mml_ids.proofs.node_set.NodeSet.take_least.Given as goal

abbrev pub invariant-loop-word : goal.invariant-loop-word
invariant-loop-word l = record { zeros : (w : ℕ) → w < l.word → get_or l.words w 0 ≡ 0; same : l.self ≡ l.fn.self }
