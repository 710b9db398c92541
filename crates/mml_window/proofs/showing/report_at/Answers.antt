use Rattle.std.proofs.{lemmas.Bool.Decides.nat_tests, Common.arith}
use Rattle.mml_policy.specs.{Rulings.ruled, Verdicts.clauses}
use Rattle.mml_stable.specs.Reports.{report_of}
use Rattle.mml_window.proofs.showing.report_at.Goals as goal

pub returns-in-Err-report-clause-ruled : goal.returns-in-Err-report-clause-ruled
returns-in-Err-report-clause-ruled c = (report_of c.args.board.now, grind (arith, nat_tests, ruled, clauses))
