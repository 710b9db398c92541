use Rattle.std.proofs.{lemmas.Bool.Decides.nat_tests, Common.◌≡◌, Common.◌&&◌, Common.ap, Common.◌∙◌, Common.arith, Common.ltb, Common.length}
use Rattle.mml_ids.specs.inside.WordsLemmas.{has_empty}
use Rattle.mml_rules.specs.{Rules.is_privileged, Network.configuration_of}
use Rattle.mml_board.proofs.{RowsLemmas.below_none, RowsLemmas.below_next, MonitorLemmas.privileged-is}
use Rattle.std.specs.FinSet as sets
use Rattle.mml_board.proofs.monitor.privileged_set.Goals as goal

pub loop-index-init : goal.loop-index-init
loop-index-init c = λ j. ap (λ t. sets.contains t j) c.empty-nodes.ensures ∙ has_empty j ∙ below_none j (is_privileged (configuration_of c.args.network.now) j)

pub loop-index-preserved : goal.loop-index-preserved
loop-index-preserved c = grind (arith, nat_tests, below_next)

pub returns : goal.returns
returns c =
    let d = configuration_of c.args.network.now in
    let all : c.loop-index.index ≡ length c.args.network.now.registers = omega (arith, c.size-index-end.ensures.size) in
    privileged-is d c.loop-index.nodes (λ j. c.loop-index.invariant j ∙ ap (λ n. ltb j n && is_privileged d j) all)
