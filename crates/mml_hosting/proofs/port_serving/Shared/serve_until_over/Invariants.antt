use Rattle.std.proofs.Common.{◌≡◌, ◌≤◌, ◌+◌, All, vec_len, vec_capacity}
use Rattle.mml_hosting.specs.{Seats.IsSeat, Seats.terms, Away.IsTurnedAway}
use Rattle.mml_hosting.proofs.PortLemmas.{History}
use Rattle.mml_hosting.proofs.port_serving.Shared.serve_until_over.Given as goal

abbrev pub invariant-loop : goal.invariant-loop
invariant-loop g l = record {
  next : (goal.iterator-loop g).can_next l.iterator';
  finite : (goal.iterator-loop g).is_finite l.iterator';
  seats : All (IsSeat (terms g.H.House.lab g.H.Begun.begun g.H.Begun.given g.Y.Reader.Read.remaining g.Y.Writer.Write.contents g.Y.Observer.Observer.kept g.Y.Kept.Keep.shows)) l.free.items;
  history : History g.Y.Kept.Keep.shows (IsTurnedAway g.Y.Writer.Write.contents g.Y.Writer.HangUp.IsHungUp) (g.A.Accept.to_come l.initial.arrivals) (g.A.Accept.to_come l.arrivals) l.initial.free.items l.free.items l.busy.items;
  len : vec_len l.free + vec_len l.busy ≡ vec_len l.initial.free;
  free_room : vec_len l.free + vec_len l.busy ≤ vec_capacity l.free;
  busy_room : vec_len l.free + vec_len l.busy ≤ vec_capacity l.busy;
}
