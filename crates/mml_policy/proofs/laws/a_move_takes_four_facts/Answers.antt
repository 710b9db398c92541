use Rattle.mml_policy.proofs.{MeaningLemmas.move_means, MeaningLemmas.move_denied}
use Rattle.mml_policy.proofs.laws.a_move_takes_four_facts.Goals as goal

pub returns-clause-granted : goal.returns-clause-granted
returns-clause-granted c ids r w x id a at e l = move_means ids r w x id a at l e

pub returns-clause-denied : goal.returns-clause-denied
returns-clause-denied c ids r w x id a at d l = move_denied ids r w x id a at l d
