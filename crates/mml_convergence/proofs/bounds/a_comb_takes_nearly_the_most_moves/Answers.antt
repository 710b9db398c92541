use Rattle.mml_convergence.proofs.CombLemmas.{comb_opens, comb_tree}
use Rattle.mml_convergence.proofs.bounds.a_comb_takes_nearly_the_most_moves.Goals as goal

pub returns-clause-world : goal.returns-clause-world
returns-clause-world c = comb_opens

pub returns-clause-tree : goal.returns-clause-tree
returns-clause-tree c = comb_tree
