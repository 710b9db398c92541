use Rattle.std.proofs.Common.{ℕ, ◌<◌}
use Rattle.mml_lab_file.specs.Sameness.{IsSameNode}
use Rattle.mml_lab_file.proofs.sameness.is_same_lab.Given as goal

abbrev pub invariant-loop-index : goal.invariant-loop-index
invariant-loop-index l = (i : ℕ) → i < l.index → IsSameNode l.a l.b i
