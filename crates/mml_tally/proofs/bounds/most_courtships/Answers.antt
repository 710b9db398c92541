use Rattle.mml_tally.proofs.BoundsLemmas.{halves_court}
use Rattle.mml_tally.proofs.bounds.most_courtships.Goals as goal

pub returns-clause-exact : goal.returns-clause-exact
returns-clause-exact c = halves_court c.args.nodes
