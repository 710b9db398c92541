use Rattle.mml_tally.{specs.Asks.is_malformed, proofs.AsksLemmas.asks_sum, proofs.AsksLemmas.denied_sum}
use Rattle.mml_laws.proofs.ColumnsLemmas.{class_of_students}
use Rattle.mml_laws.proofs.laws.columns.asks_of_a_class_are_of_the_labs_students.Goals as goal

pub returns : goal.returns
returns c = record {
  asks = class_of_students;
  denied = λ lab l start texts r is. denied_sum _ r.asks.items (class_of_students lab l start texts r is);
  malformed = λ lab l start texts r is. asks_sum (λ a. is_malformed a.line) _ r.asks.items (class_of_students lab l start texts r is);
}
