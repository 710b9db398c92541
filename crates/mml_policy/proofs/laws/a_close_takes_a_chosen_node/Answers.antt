use Rattle.std.proofs.Common.{arith}
use Rattle.mml_policy.proofs.CommandMeaningLemmas.{chosen_some, some_chosen}
use Rattle.mml_policy.proofs.laws.a_close_takes_a_chosen_node.Goals as goal

pub returns : goal.returns
returns c ids r w x = record { granted = λ e. grind (arith, chosen_some, some_chosen); denied = λ d. grind (arith, chosen_some, some_chosen) }
