use Rattle.std.proofs.Common.{◌≡◌, ◌++◌, drop}
use Rattle.mml_tally.specs.Texts.{owners_text}
use Rattle.mml_tally.proofs.text.put_owners.Given as goal

abbrev pub invariant-loop-owner : goal.invariant-loop-owner
invariant-loop-owner l = l.out.items ++ owners_text l.roster l.there (drop l.owner-index l.owners) ≡ l.fn.out.items ++ owners_text l.roster l.there l.owners
