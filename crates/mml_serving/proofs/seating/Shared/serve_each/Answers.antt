use Rattle.std.proofs.{Common.arith, lemmas.List.length-map, lemmas.Bool.Decides.nat_tests}
use Rattle.mml_serving.proofs.seating.Shared.serve_each.Goals as goal

pub returns-in-Ok : goal.returns-in-Ok
returns-in-Ok g c = grind (arith, nat_tests, length-map, c.join_all-served.result)
