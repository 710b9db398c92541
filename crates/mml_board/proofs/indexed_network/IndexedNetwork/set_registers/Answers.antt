use Rattle.std.proofs.{Common.◌≡◌, Common.◌∙◌, Common.length, Common.arith, lemmas.List.take_at}
use Rattle.mml_rules.specs.Network.{configuration_of}
use Rattle.mml_rules.proofs.RulesLemmas.{pointee_in}
use Rattle.mml_board.proofs.RowsLemmas.{rows-set, suitor_lengths}
use Rattle.mml_board.proofs.indexed_network.IndexedNetwork.set_registers.Goals as goal

pub move_suitor-requires-clause-from : goal.move_suitor-requires-clause-from
move_suitor-requires-clause-from c = grind (arith, pointee_in (configuration_of c.self.inside.network) c.args.node)

pub move_suitor-requires-clause-to : goal.move_suitor-requires-clause-to
move_suitor-requires-clause-to c = λ i e. grind (arith, c.size-size.ensures.network.lawful.in_range c.args.node i, c.requires.linked i e)

pub invariant_of-self : goal.invariant_of-self
invariant_of-self c =
    let lawful = c.size-size.ensures.network.lawful in
    let rows = c.self.inside.suitors.items in
    let size : length c.move_suitor.new.suitors ≡ length rows = grind (arith, suitor_lengths) in
    let back = take_at c.move_suitor.new.suitors _ c.self.inside.suitors.len (omega (arith, size, c.self.inside.suitors.ok.0)) in
    rows-set c.self.inside.network.registers _ c.args.node c.args.registers rows _ c.self.inside.free c.self.inside.believing _ _ c.self.invariant
    (grind arith) (grind arith) (λ i e. pointee_in (configuration_of c.self.inside.network) c.args.node i lawful e)
    (λ i e. grind (arith, lawful.in_range c.args.node i, c.requires.linked i e)) (back ∙ grind arith) (grind arith) (grind arith)
