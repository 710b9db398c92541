use Rattle.std.proofs.Common.{rules, ◌≡◌, [], ◌∷◌, Some, ap, refl, arith, length}
use Rattle.std.proofs.lemmas.{Bool.Decides.nat_tests, List.Elements.All-pop, List.Elements.All-push}
use Rattle.mml_window.specs.Windows.{window}
use Rattle.std.specs.Vec.Iter.{into_iter_items}
use Rattle.mml_hosting.specs.Hosting.{IsUnused}
use Rattle.mml_hosting.proofs.HouseLemmas.{numbers_more}
use Rattle.mml_hosting.proofs.hosted.seats_over.Goals as goal

pub loop-observer-preserved : goal.loop-observer-preserved
loop-observer-preserved g c =
    let at = c.loop-observer.invariant in
    let put = c.push_reserved.ensures in
    let goes : into_iter_items c.loop-observer.observer-iterator ≡ c.in-Some.observer ∷ into_iter_items c.next.new.self = search rules in
    let observer = rw goes at at.given in
    let popped = All-pop (λ w. w ≡ window g.H.Begun.begun []) _ _ (Some c.in-Some-pop.window) c.in-Some-pop.ensures.items at.rest in
    record {
      rest = popped.0;
      given = observer.1;
      unused = rw put.items (All-push (IsUnused g.H.Begun.begun g.H.Begun.given g.C.Observer.kept) _ _ at.unused (record {
        desk = grind (arith, nat_tests, c.requires.desk, c.args.is_desk, at.next, at.count, at.left, ap length goes);
        unseen = popped.1;
        observer = observer.0;
        sessions = search rules;
        dismissed = refl;
      }));
      numbers = numbers_more _ _ _ _ _ _ put.items put.len at.numbers at.next;
      next = omega (arith, put.len, at.next);
      count = search rules;
      left = search rules;
      room = search rules;
    }
