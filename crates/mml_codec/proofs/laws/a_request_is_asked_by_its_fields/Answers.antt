use Rattle.mml_codec.proofs.RequestsLemmas.{asked_there, there_asked}
use Rattle.mml_codec.proofs.laws.a_request_is_asked_by_its_fields.Goals as goal

pub returns : goal.returns
returns c d r = (asked_there d r, there_asked d r)
