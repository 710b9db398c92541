use Rattle.std.proofs.Common.{[], refl}
use Rattle.mml_tally.proofs.RoundsLemmas.{rounds_there, rounds_most}
use Rattle.mml_tally.proofs.laws.as_many_rounds_are_counted_as_there_are.Goals as goal

pub returns : goal.returns
returns c = record {
  there = λ w es. rounds_there w [] es;
  most = λ r w es k world legal of_step rounds goes_on.
      rounds_most k r w es [] es refl (record { world = world; legal = legal; of_step = of_step }) goes_on rounds;
}
