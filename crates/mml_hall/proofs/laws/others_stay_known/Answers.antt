use Rattle.mml_hall.proofs.TurnsLemmas.{others_turn}
use Rattle.mml_hall.proofs.laws.others_stay_known.Goals as goal

pub returns : goal.returns
returns c = others_turn
