use Rattle.std.proofs.{lemmas.Bool.Decides.nat_tests, Common.arith, Common.rules, lemmas.Option.IfSome_then}
use Rattle.mml_plain.proofs.CompactLemmas.{known_key, four_first}
use Rattle.mml_plain.proofs.compact_reading.member.Goals as goal

pub returns-in-Some : goal.returns-in-Some
returns-in-Some c = grind (arith, nat_tests, known_key, four_first)

pub returns-then-in_key-lt8 : goal.returns-then-in_key-lt8
returns-then-in_key-lt8 c = IfSome_then c.any_member.result c.any_member.ensures (λ rest puts. puts c.args.text.now c.in_ok-in_key.ensures)

pub returns : goal.returns
returns c = search rules
