use Rattle.mml_stable.proofs.WalkLemmas.{rises, top-ends}
use Rattle.mml_stable.proofs.laws.walk_rises.Goals as goal

pub returns-clause-rises : goal.returns-clause-rises
returns-clause-rises c = rises

pub returns-clause-ends : goal.returns-clause-ends
returns-clause-ends c = λ d i l i_in free. (top-ends d l i i_in free).leads
