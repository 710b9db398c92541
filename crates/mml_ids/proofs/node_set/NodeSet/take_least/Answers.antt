use Rattle.std.proofs.Common.{arith}
use Rattle.mml_ids.proofs.NodeSetLemmas.{none_below_lowest}
use Rattle.mml_ids.proofs.node_set.NodeSet.take_least.Goals as goal

pub returns-in-Some-clause-least : goal.returns-in-Some-clause-least
returns-in-Some-clause-least c = grind (arith, none_below_lowest 256 c.self.inside.words c.loop-word.word c.in-Some.bit)
