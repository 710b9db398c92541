use Rattle.std.proofs.Common.{arith, length-set}
use Rattle.mml_lab.proofs.OwnedLemmas.{one_owner}
use Rattle.mml_lab.proofs.owned.give.Goals as goal

pub loop-owner-preserved : goal.loop-owner-preserved
loop-owner-preserved c = grind (arith, length-set, one_owner)
