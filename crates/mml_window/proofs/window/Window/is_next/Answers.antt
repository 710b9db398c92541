use Rattle.std.proofs.{lemmas.Bool.Decides.nat_tests, Common.arith, lemmas.Bool.eqb-false}
use Rattle.mml_window.proofs.{TallyLemmas.stuck_at}
use Rattle.mml_window.proofs.window.Window.is_next.Goals as goal

pub returns-in-Some-clause-stuck : goal.returns-in-Some-clause-stuck
returns-in-Some-clause-stuck g c differ =
    grind (arith, nat_tests, eqb-false, stuck_at c.args.place 0 _ c.args.cursor c.in-Some.next.now c.self.inside.places.items c.self.invariant.0.climbs)
