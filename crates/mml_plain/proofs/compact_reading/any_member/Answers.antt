use Rattle.mml_plain.proofs.CompactLemmas.{key_is, bare_utf8}
use Rattle.mml_plain.proofs.compact_reading.any_member.Goals as goal

pub returns : goal.returns
returns c = λ whole quoted. record {
  key = c.in_ok-key.key.now;
  value = c.in_ok-value.value;
  member = record {
    at_key = quoted.at_quote;
    spaced = quoted.spaced;
    key_utf8 = bare_utf8 c.in_ok-key.key.now c.in_ok-key.ensures.1;
    after_key = c.in_ok-after_key.after_key.now;
    key = key_is quoted.at_quote c.args.text.now c.in_ok-key.at_colon.now c.in_ok-key.key.now c.in_ok-after_key.after_key.now quoted.quote c.in_ok-key.ensures.0 c.in_ok-key.ensures.1 c.in_ok-after_key.ensures;
    at_value = c.unspaced-at_value.result.now;
    spaced_value = c.unspaced-at_value.ensures;
    value = c.in_ok-value.ensures;
  };
  put = c.put.ensures;
}
