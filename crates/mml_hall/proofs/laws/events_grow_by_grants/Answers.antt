use Rattle.mml_hall.proofs.TurnsLemmas.{growing_turn}
use Rattle.mml_hall.proofs.laws.events_grow_by_grants.Goals as goal

pub returns : goal.returns
returns c = growing_turn
