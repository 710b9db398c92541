use Rattle.std.proofs.Common.{arith}
use Rattle.mml_rules.proofs.RulesLemmas.{pointee_in}
use Rattle.mml_board.specs.World.{configuration}
use Rattle.mml_stable.proofs.reporting.pairs.Goals as goal

pub p-requires-then-lt : goal.p-requires-then-lt
p-requires-then-lt c = grind (arith, pointee_in (configuration c.args.board.now) c.at-node.result)
