use Rattle.std.proofs.lemmas.List.Elements.{All-push}
use Rattle.mml_hosting.specs.Seats.{IsSeat}
use Rattle.mml_hosting.proofs.port_serving.Shared.take_in.Goals as goal

pub returns-in-Err-clause-seats : goal.returns-in-Err-clause-seats
returns-in-Err-clause-seats g c =
    rw c.push_reserved-in-Err.ensures.items (All-push (IsSeat _) _ _ c.in-Some.ensures.seats c.in-Err.ensures.served.seat)
