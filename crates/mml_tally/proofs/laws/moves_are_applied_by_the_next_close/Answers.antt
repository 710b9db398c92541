use Rattle.mml_tally.proofs.FatesLemmas.{applied_by_close}
use Rattle.mml_tally.proofs.laws.moves_are_applied_by_the_next_close.Goals as goal

pub returns : goal.returns
returns c = applied_by_close
