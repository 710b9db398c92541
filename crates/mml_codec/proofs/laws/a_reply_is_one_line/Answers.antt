use Rattle.mml_codec.proofs.ReplyValuesLemmas.{reply_line_is}
use Rattle.mml_codec.proofs.laws.a_reply_is_one_line.Goals as goal

pub returns : goal.returns
returns c ids roster r table is about counts = reply_line_is ids roster is table r about counts
