use Rattle.mml_convergence.proofs.ReachedLemmas.{first_world, first_size, rounds_reached}
use Rattle.mml_convergence.proofs.bounds.rounds_are_reached.Goals as goal

pub returns-clause-world : goal.returns-clause-world
returns-clause-world c n few = (first_world n few, first_size n)

pub returns-clause-reached : goal.returns-clause-reached
returns-clause-reached c r s n two few owned = let x = rounds_reached r s n two few owned in (x.0, x.1, x.2, x.4, x.5)

pub returns-clause-singly : goal.returns-clause-singly
returns-clause-singly c = rounds_reached
