use Rattle.std.proofs.{Common.◌≡◌, Common.◌∙◌, Common.length, Common.arith, lemmas.List.take_at}
use Rattle.mml_rules.specs.Network.{configuration_of}
use Rattle.mml_rules.proofs.RulesLemmas.{pointee_in}
use Rattle.mml_board.proofs.RowsLemmas.{no_rows, next_rows, length-with_suitor}
use Rattle.mml_board.proofs.indexed_network.IndexedNetwork.new.Goals as goal

pub loop-index-init : goal.loop-index-init
loop-index-init c = grind (arith, no_rows)

pub put_suitor-requires : goal.put_suitor-requires
put_suitor-requires c = grind (arith, pointee_in (configuration_of c.in_ok-network.network) c.at-node.result)

pub loop-index-preserved : goal.loop-index-preserved
loop-index-preserved c =
    let rows = c.loop-index.suitors.items in
    let added : length c.put_suitor.new.suitors ≡ length rows = grind (arith, length-with_suitor) in
    let back = take_at c.put_suitor.new.suitors _ c.loop-index.suitors.len (omega (arith, added, c.loop-index.suitors.ok.0)) in
    next_rows c.in_ok-network.network.registers c.loop-index.index rows _ c.loop-index.free c.loop-index.believing _ _ c.loop-index.invariant
    (λ i e. pointee_in (configuration_of c.in_ok-network.network) c.loop-index.index i c.size-index-end.ensures.network.lawful e)
    (back ∙ grind arith) (grind arith) (grind arith)

pub invariant_of-result : goal.invariant_of-result
invariant_of-result c = grind arith
