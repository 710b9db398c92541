use Rattle.mml_laws.proofs.ServedLemmas.{house_once}
use Rattle.mml_laws.proofs.laws.places.each_event_of_a_house_has_one_reply.Goals as goal

pub returns : goal.returns
returns c = house_once
