use Rattle.std.proofs.{lemmas.Bool.Decides.nat_tests, Common.rules, Common.arith}
use Rattle.mml_window.proofs.TallyLemmas.{left_moved, left_drop, stuck_append}
use Rattle.mml_window.proofs.tally.count_off.Goals as goal

pub returns-then-is_next : goal.returns-then-is_next
returns-then-is_next g c p = grind (arith, nat_tests, left_moved)

pub windows-preserved : goal.windows-preserved
windows-preserved g c =
    let at = c.windows.invariant in
    let more = left_drop c.args.windows.now c.args.cursors.now c.windows.index c.index-windows-index.result (search rules) c.windows-test.true
    (omega (arith, c.windows-test.true, c.requires.few, c.told-cursors)) in
    (λ rest. at.0 (rw more (stuck_append c.args.place _ _ (rw at.1 at (c.is_next.ensures.stuck c.if-is_next.false)) rest)), at.1)
