use Rattle.mml_laws.proofs.ChoicesLemmas.{granted_last}
use Rattle.mml_laws.proofs.laws.choices.chosen_moves_were_granted_last.Goals as goal

pub returns : goal.returns
returns c = granted_last
