use Rattle.std.proofs.Common.{◌≡◌, ℕ, ◌≤◌, ◌<◌, get_or}
use Rattle.mml_ids.proofs.node_set.NodeSet.greatest.Given as goal

abbrev pub invariant-loop-word : goal.invariant-loop-word
invariant-loop-word l = (w : ℕ) → l.word ≤ w → w < 4 → get_or l.self-inside.words w 0 ≡ 0
