use Rattle.mml_stable.proofs.ListedLemmas.{listed_matching}
use Rattle.mml_stable.proofs.laws.stable_reports_list_a_maximal_matching.Goals as goal

pub returns : goal.returns
returns c = λ w is s. listed_matching _ is.network.lawful s
