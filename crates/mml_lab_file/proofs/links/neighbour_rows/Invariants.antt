use Rattle.mml_lab_file.proofs.ChecksLemmas.{AreFresh}
use Rattle.mml_lab_file.proofs.links.neighbour_rows.Given as goal

abbrev pub invariant-loop-index : goal.invariant-loop-index
invariant-loop-index l = AreFresh l.ids l.links l.index l.rows.items
