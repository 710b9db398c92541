use Rattle.mml_convergence.proofs.MovesReachedLemmas.{crowd_opens}
use Rattle.mml_convergence.proofs.bounds.moves_are_reached.Goals as goal

pub returns-clause-world : goal.returns-clause-world
returns-clause-world c = crowd_opens
