use Rattle.std.proofs.{Common.rules, Common.arith, lemmas.List.Elements.All-push, lemmas.List.Sums.sum_by_push}
use Rattle.mml_hosting.specs.{Seats.IsSeat, Counting.count_in}
use Rattle.mml_hosting.proofs.port_serving.gather.Goals as goal

pub loop-index-preserved : goal.loop-index-preserved
loop-index-preserved g c =
    let at = c.loop-index.invariant in
    let put = c.push_reserved.ensures.items in
    let one = c.join_one.ensures in
    record {
      seats = rw put (All-push (IsSeat _) _ _ at.seats one.seat);
      count = λ of h.
          rw put (omega (arith, at.count of h, one.count of h, sum_by_push (count_in g.Y.Kept.Keep.shows of h) c.loop-index.free.items c.join_one.result));
      len = search rules;
      capacity = search rules;
      busy_capacity = search rules;
    }
