use Rattle.std.proofs.{Common.arith, lemmas.Bool.Decides.nat_tests}
use Rattle.mml_tally.{specs.declared.ask.Ask.Ask, specs.Asks.is_malformed, proofs.AsksLemmas.asks_sum}
use Rattle.mml_record.proofs.{AsksLemmas.asked_of_rules, AskersLemmas.are_asks_of}
use Rattle.mml_record.proofs.laws.asks_are_of_the_labs_students.Goals as goal

pub returns-clause-malformed : goal.returns-clause-malformed
returns-clause-malformed c = grind (arith, nat_tests, asks_sum (λ (a : Ask). is_malformed a.line), are_asks_of, asked_of_rules)
