use Rattle.std.proofs.Common.{ap}
use Rattle.mml_tally.specs.{Asks.denials_in, Asks.moves_asked, Refusals.refusals_in, StudentDenials.named_in}
use Rattle.mml_tally.proofs.AsksLemmas.{asks_under}
use Rattle.mml_tally.proofs.laws.asks_depend_on_no_other_name.Goals as goal

pub returns-clause-denied : goal.returns-clause-denied
returns-clause-denied c = λ asks s f same. ap denials_in (asks_under f s same asks)

pub returns-clause-refused : goal.returns-clause-refused
returns-clause-refused c = λ asks s f same. ap refusals_in (asks_under f s same asks)

pub returns-clause-named : goal.returns-clause-named
returns-clause-named c = λ asks s f same. ap named_in (asks_under f s same asks)

pub returns-clause-asked : goal.returns-clause-asked
returns-clause-asked c = λ asks id s f same. ap (moves_asked id) (asks_under f s same asks)
