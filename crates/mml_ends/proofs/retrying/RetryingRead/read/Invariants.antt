-- The interrupted reads so far left the length of the buffer, `lacked_memory`, and the bytes still to be read
-- unchanged.
use Rattle.std.{proofs.Common.◌≡◌, proofs.Common.length, specs.Io.KnownBytes.Keeps}
use Rattle.mml_ends.proofs.retrying.RetryingRead.read.Given as goal

abbrev pub invariant-loop : goal.invariant-loop
invariant-loop g l = (length l.buf ≡ length l.initial.buf) × (l.self.lacked_memory ≡ l.initial.self.lacked_memory) × Keeps (g.R.Read.remaining l.initial.self.inner) (g.R.Read.remaining l.self.inner)
