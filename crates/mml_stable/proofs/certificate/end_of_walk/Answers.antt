use Rattle.std.proofs.{Common.◌-◌, Common.arith}
use Rattle.mml_rules.proofs.RulesLemmas.{pointee_in}
use Rattle.mml_board.specs.World.{configuration}
use Rattle.mml_stable.proofs.WalkLemmas.{climb_onward}
use Rattle.mml_stable.proofs.certificate.end_of_walk.Goals as goal

pub loop-step-preserved : goal.loop-step-preserved
loop-step-preserved c = grind (arith, climb_onward, pointee_in (configuration c.args.board.now) c.loop-step.at)
