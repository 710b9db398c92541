use Rattle.std.proofs.Common.{arith}
use Rattle.mml_rules.specs.Network.{configuration_of}
use Rattle.mml_rules.proofs.StepLemmas.{moved-linked}
use Rattle.mml_board.proofs.effects.move_chosen.Goals as goal

pub write_effects-requires-clause-linked : goal.write_effects-requires-clause-linked
write_effects-requires-clause-linked c = λ i j h e. grind (arith, moved-linked (configuration_of c.args.network.now) i j, c.compute_effects.ensures.effects i)
