use Rattle.std.proofs.Common.{arith}
use Rattle.mml_ids.specs.inside.WordsLemmas.{has_empty, has_insert}
use Rattle.mml_board.proofs.MonitorLemmas.{around_refreshed, privileged-is}
use Rattle.mml_board.proofs.monitor.refresh.Goals as goal

pub loop-node-preserved : goal.loop-node-preserved
loop-node-preserved c =
    around_refreshed _ _ _ _ _ _ c.size-size.ensures.lawful c.in-Some.ensures.rest (grind (arith, has_insert)) c.loop-node.invariant

pub returns : goal.returns
returns c = privileged-is _ _ (λ j. c.loop-node.invariant j (grind (arith, has_empty)))
