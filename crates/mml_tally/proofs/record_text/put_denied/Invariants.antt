use Rattle.std.proofs.Common.{◌≡◌, ◌++◌}
use Rattle.mml_tally.specs.RecordTexts.{denied_text}
use Rattle.mml_tally.proofs.record_text.put_denied.Given as goal

abbrev pub invariant-loop-index : goal.invariant-loop-index
invariant-loop-index l = l.out.items ≡ l.fn.out.items ++ denied_text l.lab l.asks l.index
