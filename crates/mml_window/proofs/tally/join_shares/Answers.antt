use Rattle.std.proofs.Common.{rules, ◌≡◌, ◌++◌, ◌∷◌, [], ◌∙◌, ap, arith, length-append, append_assoc}
use Rattle.std.proofs.lemmas.{Bool.Decides.nat_tests, List.Sums.sum_by-cons, List.Elements.All-cons, List.Elements.All-nil}
use Rattle.mml_window.specs.{Tallies.told_of, Windows.WindowValue, Windows.IsWindow}
use Rattle.mml_window.proofs.tally.join_shares.Goals as goal

pub loop-window-init : goal.loop-window-init
loop-window-init g c =
    let own = c.into_shares-all.ensures in
    let all = All-cons (IsWindow g.H.House.lab) _ [] own.window (All-nil (IsWindow g.H.House.lab)) in
    (c.in_ok-last.last ∷ [], search rules, all, grind (arith, nat_tests, sum_by-cons, length-append))

pub loop-window-preserved : goal.loop-window-preserved
loop-window-preserved g c =
    let at = c.loop-window.invariant in
    let w = c.in-Some.window in
    let popped : c.loop-window.windows.items ≡ c.pop-in-loop-window.new.self.items ++ w ∷ [] = search rules in
    let own = c.into_shares-halts.ensures in (
      w ∷ at.0,
      at.1 ∙ ap (λ l. l ++ at.0) popped ∙ append_assoc c.pop-in-loop-window.new.self.items (w ∷ []) at.0,
      All-cons (IsWindow g.H.House.lab) w at.0 own.window at.2,
      record {
        halts_are = omega (arith, at.3.halts_are, c.merge.ensures.amount, own.shares.0, sum_by-cons (λ (v : WindowValue). v.halts) w at.0);
        spares_are = omega (arith, at.3.spares_are, c.merge-in-Some.ensures.amount, own.shares.1, sum_by-cons (λ (v : WindowValue). v.spare) w at.0);
        grants_are = omega (arith, at.3.grants_are, c.merge-in-Some-2.ensures.amount, own.shares.2, length-append w.places (told_of at.0));
        one_each = omega (arith, at.3.one_each, c.merge.ensures.parts, own.part);
        spare_each = omega (arith, at.3.spare_each, c.merge-in-Some.ensures.parts, own.spare_part);
      },
    )
