use Rattle.mml_tally.specs.Asks.{is_malformed}
use Rattle.mml_tally.proofs.AsksLemmas.{asks_sum, denied_sum}
use Rattle.mml_tally.proofs.laws.denials_are_of_one_student.Goals as goal

pub returns : goal.returns
returns c = record { denied = denied_sum; malformed = asks_sum (λ a. is_malformed a.line) }
