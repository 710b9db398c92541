use Rattle.mml_policy.proofs.CommandMeaningLemmas.{fault_decided}
use Rattle.mml_policy.proofs.laws.a_fault_takes_a_neighbour.Goals as goal

pub returns : goal.returns
returns c ids r w x id p m = fault_decided ids r w x id m p
