use Rattle.std.proofs.{Common.Some, lemmas.List.Elements.All-pop, lemmas.List.Elements.All-push}
use Rattle.mml_hosting.specs.Seats.{IsSeat}
use Rattle.mml_hosting.proofs.port_serving.next_free.Goals as goal

pub returns-then-not-make_ready-clause-seats : goal.returns-then-not-make_ready-clause-seats
returns-then-not-make_ready-clause-seats g c =
    let left = All-pop (IsSeat _) _ _ (Some c.in_ok-seat.seat) c.in_ok-seat.ensures.items c.requires.seats in
    rw c.push_reserved.ensures.items (All-push (IsSeat _) _ _ left.0 c.make_ready.ensures.seat)
