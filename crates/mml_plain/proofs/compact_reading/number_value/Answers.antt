use Rattle.std.proofs.lemmas.Option.{IfSome_then}
use Rattle.mml_plain.proofs.CompactLemmas as compact
use Rattle.mml_plain.proofs.compact_reading.number_value.Goals as goal

pub returns : goal.returns
returns c =
    IfSome_then c.whole_number.result c.whole_number.ensures
    (λ r h. record { at_value = c.unspaced.result.now; spaced_value = c.unspaced.ensures; value = compact.number_value c.unspaced.result.now r.1.now r.0 h.1 h.0 })
