use Rattle.mml_rules.proofs.StepLemmas.{matching}
use Rattle.mml_stable.proofs.MatchingLemmas.{stable-means, maximal, stable-m}
use Rattle.mml_stable.proofs.laws.stable_is_maximal.Goals as goal

pub returns : goal.returns
returns c = record { told = stable-means; matching = matching; maximal = maximal; m = stable-m }
