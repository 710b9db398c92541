use Rattle.mml_codec.proofs.CanonicalLemmas.{canonical_line}
use Rattle.mml_codec.proofs.laws.a_text_is_one_line.Goals as goal

pub returns : goal.returns
returns c r h = canonical_line r h
