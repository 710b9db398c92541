use Rattle.std.proofs.Common.{◌≡◌, ◌++◌, drop}
use Rattle.mml_tally.specs.RecordTexts.{askers_text}
use Rattle.mml_tally.proofs.record_text.put_askers.Given as goal

abbrev pub invariant-loop-owner : goal.invariant-loop-owner
invariant-loop-owner l =
    l.out.items ++ askers_text l.roster l.asks l.id (drop l.owner-index l.owners) ≡ l.fn.out.items ++ askers_text l.roster l.asks l.id l.owners
