use Rattle.std.proofs.{Common.arith, lemmas.Grind.common_steps}
use Rattle.mml_rules.specs.Network.{Network}
use Rattle.mml_rules.proofs.NetworkLemmas.{node_within, linked_is_lawful}
use Rattle.mml_rules.proofs.network.Network.link.Goals as goal

pub invariant_of-self : goal.invariant_of-self
invariant_of-self c =
    let n : Network = record { neighbours = c.self.inside.neighbours.items; registers = c.self.inside.registers.items } in
    linked_is_lawful n _ c.args.a c.args.b c.self.invariant (node_within n _ c.args.a c.self.view_is c.requires.a)
    (node_within n _ c.args.b c.self.view_is c.requires.b) c.requires.apart (grind (arith, common_steps)) (grind (arith, common_steps))
