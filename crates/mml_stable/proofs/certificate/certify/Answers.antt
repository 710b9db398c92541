use Rattle.mml_stable.proofs.WalkLemmas.{certified, witness-guard}
use Rattle.mml_board.specs.World.{configuration}
use Rattle.std.proofs.{Common.arith}
use Rattle.mml_stable.proofs.certificate.certify.Goals as goal

pub returns-clause-node : goal.returns-clause-node
returns-clause-node c = grind (arith, certified)

pub returns-clause-holds : goal.returns-clause-holds
returns-clause-holds c = witness-guard (configuration c.args.board.now) c.witness.result (grind (arith, certified))
