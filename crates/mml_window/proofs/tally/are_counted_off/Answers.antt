use Rattle.std.proofs.{lemmas.Bool.Decides.nat_tests, Common.arith}
use Rattle.mml_window.proofs.TallyLemmas.{left_among, left_drop}
use Rattle.mml_window.proofs.tally.are_counted_off.Goals as goal

pub returns-then-not-is_counted_off : goal.returns-then-not-is_counted_off
returns-then-not-is_counted_off g c = grind (arith, nat_tests, left_among)

pub windows-preserved : goal.windows-preserved
windows-preserved g c = grind (arith, nat_tests, left_drop c.args.windows.now c.args.cursors.now c.windows.index c.index-windows-index.result)
