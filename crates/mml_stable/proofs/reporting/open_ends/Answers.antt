use Rattle.std.{proofs.Common.arith, proofs.lemmas.Bool.Decides.nat_tests, specs.Cmp.nat_cmp_total}
use Rattle.mml_ids.specs.inside.WordsLemmas.{has_empty}
use Rattle.std.specs.FinSet as sets
use Rattle.mml_stable.proofs.reporting.open_ends.Goals as goal

pub returns-then-has : goal.returns-then-has
returns-then-has c = λ b.
    grind (arith, nat_tests, sets.contains-intersection nat_cmp_total c.neighbours.result c.args.rest b, c.requires.rest b, c.requires.rest c.args.a)

pub returns-else-has : goal.returns-else-has
returns-else-has c = λ b. grind (arith, nat_tests, has_empty, c.requires.rest c.args.a)
