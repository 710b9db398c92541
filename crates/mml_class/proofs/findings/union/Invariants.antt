use Rattle.std.{proofs.Common.◌≡◌, proofs.Common.ℕ, specs.Prelude.◌||◌}
use Rattle.std.specs.FinSet as sets
use Rattle.mml_class.proofs.findings.union.Given as goal

abbrev pub invariant-ranks : goal.invariant-ranks
invariant-ranks l = (q : ℕ) → (sets.contains l.all q || sets.contains l.left q) ≡ (sets.contains l.fn.a q || sets.contains l.fn.b q)

abbrev pub decreases-ranks : goal.decreases-ranks
decreases-ranks l = sets.len l.left
