use Rattle.std.proofs.Common.{refl, arith}
use Rattle.mml_convergence.proofs.ExamplesLemmas.{roster, world, run, four}
use Rattle.mml_convergence.proofs.laws.bound_is_reached.Goals as goal

pub returns : goal.returns
returns c = record { roster = roster; world = world; legal = run.0; of_step = refl; counts = (run.1, four, refl); reached = omega (arith, run.1, four) }
