use Rattle.mml_codec.proofs.ReplyValuesLemmas.{reply_text, read-reply, keys_rise}
use Rattle.mml_codec.proofs.laws.a_reply_reads_back.Goals as goal

pub returns : goal.returns
returns c = record {
  text = λ ids roster r is about. reply_text ids roster is r about;
  value = λ ids roster r table is about counts. read-reply ids roster is table r about counts;
  order = keys_rise;
}
