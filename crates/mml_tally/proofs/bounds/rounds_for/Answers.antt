use Rattle.mml_tally.proofs.BoundsLemmas.{rounds_are}
use Rattle.mml_tally.proofs.bounds.rounds_for.Goals as goal

pub returns : goal.returns
returns c = rounds_are c.args.nodes
