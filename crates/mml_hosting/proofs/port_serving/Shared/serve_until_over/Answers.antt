use Rattle.std.proofs.Common.{length, ap, arith, sym}
use Rattle.mml_hosting.proofs.PortLemmas.{one_came, port_attended, port_numbers}
use Rattle.mml_hosting.proofs.port_serving.Shared.serve_until_over.Goals as goal

pub loop-preserved-in-Came : goal.loop-preserved-in-Came
loop-preserved-in-Came g c =
    let at = c.loop.invariant in
    let one = c.take_in.ensures in
    record {
      next = tt;
      finite = tt;
      seats = one.seats;
      history = one_came _ _ _ _ _ _ _ _ _ _ at.history c.in-Came.ends c.in-Came.ensures one.takes;
      len = omega (arith, at.len, one.len);
      free_room = omega (arith, at.free_room, one.len, one.capacity);
      busy_room = omega (arith, at.busy_room, one.len, one.busy_capacity);
    }

pub returns-clause-serves : goal.returns-clause-serves
returns-clause-serves g c =
    let history = c.loop.invariant.history in
    let joined = c.gather-2.ensures in
    rw (sym c.reserve.ensures.items) (record {
      seats = joined.seats;
      count = omega (arith, c.loop.invariant.len, joined.len, c.reserve.ensures.len, ap length joined.all);
      numbers = port_numbers _ _ _ _ _ _ c.gather-2.new.free.items _ _ history joined.all joined.count;
      attends = (port_attended _ _ _ _ _ _ c.gather-2.new.free.items _ _ history joined.all joined.count).0;
    })

pub returns-clause-away : goal.returns-clause-away
returns-clause-away g c =
    let joined = c.gather-2.ensures in
    rw (sym c.reserve.ensures.items) (port_attended _ _ _ _ _ _ c.gather-2.new.free.items _ _ c.loop.invariant.history joined.all joined.count)
