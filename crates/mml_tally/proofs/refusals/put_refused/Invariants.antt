use Rattle.std.proofs.Common.{◌≡◌, ◌++◌}
use Rattle.mml_tally.specs.Refusals.{refused_text}
use Rattle.mml_tally.proofs.refusals.put_refused.Given as goal

abbrev pub invariant-loop-index : goal.invariant-loop-index
invariant-loop-index l = l.out.items ≡ l.fn.out.items ++ refused_text l.lab l.asks l.index
