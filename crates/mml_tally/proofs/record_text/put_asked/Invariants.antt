use Rattle.std.proofs.Common.{◌≡◌, ◌++◌}
use Rattle.mml_tally.specs.RecordTexts.{asked_text}
use Rattle.mml_tally.proofs.record_text.put_asked.Given as goal

abbrev pub invariant-loop-index : goal.invariant-loop-index
invariant-loop-index l = l.out.items ≡ l.fn.out.items ++ asked_text l.lab l.asks l.index
