use Rattle.std.proofs.{lemmas.Bool.Decides.nat_tests, Common.arith}
use Rattle.mml_policy.specs.{Rulings.ruled, Shown.look_of, Verdicts.clauses}
use Rattle.mml_window.proofs.showing.look_at.Goals as goal

pub returns-in-Err-look_of : goal.returns-in-Err-look_of
returns-in-Err-look_of c = (look_of c.args.board.now c.in-Ok.rank, grind (arith, nat_tests, ruled, clauses, look_of))
