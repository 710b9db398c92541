-- The interrupted writes so far left `lacked_memory` and the bytes written before unchanged.
use Rattle.std.{proofs.Common.◌≡◌, specs.Io.KnownBytes.Keeps}
use Rattle.mml_ends.proofs.retrying.RetryingWrite.write.Given as goal

abbrev pub invariant-loop : goal.invariant-loop
invariant-loop g l = (l.self.lacked_memory ≡ l.initial.self.lacked_memory) × Keeps (g.W.Write.contents l.initial.self.inner) (g.W.Write.contents l.self.inner)
