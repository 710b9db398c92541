use Rattle.std.proofs.Common.{arith, length-set, replicate}
use Rattle.mml_ids.specs.inside.WordsLemmas.{has_remove}
use Rattle.mml_board.proofs.{ChoicesLemmas.all_dropped, WorldLemmas.chosen_within, WorldLemmas.chosen_at-set}
use Rattle.mml_board.proofs.choices.drop_each.Goals as goal

pub loop-node-preserved : goal.loop-node-preserved
loop-node-preserved c = grind (arith, length-set, chosen_at-set, chosen_within, has_remove)

pub returns : goal.returns
returns c = grind (arith, all_dropped, replicate)
