use Rattle.mml_laws.proofs.ClassesLemmas.{class_seats}
use Rattle.mml_laws.proofs.laws.classes.a_class_has_recorded_seats.Goals as goal

pub returns-clause-seats : goal.returns-clause-seats
returns-clause-seats g c = class_seats
