use Rattle.std.proofs.Common.{◌≡◌, ℕ, ◌<◌}
use Rattle.std.specs.FinSet as set
use Rattle.mml_rules.specs.Network.{neighbours_at}
use Rattle.mml_lab_file.proofs.sameness.has_same_links.Given as goal

abbrev pub invariant-loop-index : goal.invariant-loop-index
invariant-loop-index l = (j : ℕ) → j < l.index
    → set.contains (neighbours_at l.a.network.neighbours l.node) j ≡ set.contains (neighbours_at l.b.network.neighbours l.node) j
