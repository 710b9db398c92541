use Rattle.std.proofs.Common.{arith}
use Rattle.mml_tally.specs.{Moves.moves, Marks.moves_by}
use Rattle.mml_tally.proofs.MarksLemmas.{total_is, total_applied, all_fates}
use Rattle.mml_tally.proofs.laws.granted_moves_have_one_fate.Goals as goal

pub returns : goal.returns
returns c = λ r es s. let own = moves_by s (moves es) in omega (arith, total_is own, total_applied own, all_fates own)
