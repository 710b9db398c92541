use Rattle.mml_codec.proofs.CanonicalLemmas.{request_in-canonical}
use Rattle.mml_codec.proofs.laws.a_text_asks_its_request.Goals as goal

pub returns : goal.returns
returns c r h = request_in-canonical r h
