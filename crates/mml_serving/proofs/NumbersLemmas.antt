-- How numbers are read from texts.
use Rattle.mml_journal.proofs.NumeralLemmas.{number_of-decimal, number_of_only}

-- a number is read from its decimal text, and from no other text
pub ruleset read_numbers = (number_of-decimal, number_of_only)
