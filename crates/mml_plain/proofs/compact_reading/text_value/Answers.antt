use Rattle.std.proofs.{Common.refl, lemmas.Option.IfSome_then}
use Rattle.mml_plain.specs.declared.member_value.MemberValue.TheVariants.{Text}
use Rattle.mml_plain.proofs.CompactLemmas as compact
use Rattle.mml_plain.proofs.compact_reading.text_value.Goals as goal

pub returns : goal.returns
returns c =
    let quoted = c.in_ok-in_quotes.ensures in
    IfSome_then c.bare_word.result c.bare_word.ensures (λ r h. record {
      at_value = quoted.at_quote;
      spaced_value = quoted.spaced;
      value =
          compact.text_value quoted.at_quote c.in_ok-in_quotes.field-0.now r.1.now (Text r.0) r.0.now
          (record { text = refl; number = refl; truth = refl; register = refl }) quoted.quote h.0 h.1;
    })
