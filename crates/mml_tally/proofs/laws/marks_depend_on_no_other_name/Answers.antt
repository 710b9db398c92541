use Rattle.std.proofs.lemmas.List.{length-map}
use Rattle.mml_tally.specs.{Marks.marks_from, Meaning.asked_as}
use Rattle.mml_tally.proofs.MarksLemmas.{moves_as}
use Rattle.mml_tally.proofs.laws.marks_depend_on_no_other_name.Goals as goal

pub returns : goal.returns
returns c = λ r es s f own. λ k. marks_from r (length-map es (asked_as f) k) (moves_as f s 1 es own k)
