use Rattle.mml_class.specs.inside.Marking.{AreMarked}
use Rattle.mml_class.proofs.granting.first_unmarked.Given as goal

abbrev pub invariant-places : goal.invariant-places
invariant-places l = AreMarked l.begun l.marks l.at
