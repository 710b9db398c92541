use Rattle.mml_tally.proofs.SinceLemmas.{rounds_within}
use Rattle.mml_tally.proofs.laws.rounds_since_are_within_the_most.Goals as goal

pub returns : goal.returns
returns c = record { within = λ lab es known legal. (rounds_within lab es known legal).0; stable = λ lab es known legal. (rounds_within lab es known legal).1 }
