use Rattle.std.proofs.{Common.arith, Common.ap, Common.length, Common.append_assoc, lemmas.List.map-append}
use Rattle.mml_serving.proofs.ServingLemmas.{each_more}
use Rattle.mml_serving.proofs.seating.join_all.Goals as goal

pub loop-handle-preserved : goal.loop-handle-preserved
loop-handle-preserved g c =
    let at = c.loop-handle.invariant in
    let steps = c.in-Some.ensures.steps.0 in
    record {
      all = rw (append_assoc, ← steps) at.all;
      served =
          rw (map-append, c.push_reserved-in-loop-handle.ensures.items, c.push_reserved.ensures.items)
          (each_more _ _ _ _ _ _ _ at.served c.join-window.ensures);
      windows_room = omega (arith, at.windows_room, ap length steps, c.push_reserved.ensures.len, c.push_reserved.ensures.capacity);
      sessions_room = omega (arith, at.sessions_room, ap length steps);
    }
