use Rattle.std.proofs.Common.{refl, arith}
use Rattle.mml_plain.specs.declared.member_value.MemberValue.TheVariants.{Text}
use Rattle.mml_plain.proofs.CompactLemmas.{text_value, number_value, truth_value, null_value}
use Rattle.mml_plain.proofs.compact_reading.member_value.Goals as goal

pub returns-in-Some : goal.returns-in-Some
returns-in-Some c =
    text_value c.args.text.now c.in-Some.text.now c.in_ok-word.rest.now (Text c.in_ok-word.word) c.in_ok-word.word.now
    (record { text = refl; number = refl; truth = refl; register = refl }) c.in-Some.ensures c.in_ok-word.ensures.0 c.in_ok-word.ensures.1

pub returns-in-Some-whole_number : goal.returns-in-Some-whole_number
returns-in-Some-whole_number c = grind (arith, number_value)

pub returns-in-Some-after_byte : goal.returns-in-Some-after_byte
returns-in-Some-after_byte c = grind (arith, truth_value)

pub returns-in-Some-after_byte-2 : goal.returns-in-Some-after_byte-2
returns-in-Some-after_byte-2 c = grind (arith, truth_value)

pub returns-in-Some-after_byte-3 : goal.returns-in-Some-after_byte-3
returns-in-Some-after_byte-3 c = grind (arith, null_value)
