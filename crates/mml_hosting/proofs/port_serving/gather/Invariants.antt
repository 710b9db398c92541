use Rattle.std.proofs.Common.{◌≡◌, ◌+◌, All, vec_len, vec_capacity}
use Rattle.mml_hosting.specs.{Seats.IsSeat, Seats.terms, Counting.KeepCounts}
use Rattle.mml_hosting.proofs.port_serving.gather.Given as goal

abbrev pub invariant-loop-index : goal.invariant-loop-index
invariant-loop-index g l = record {
  seats : All (IsSeat (terms g.H.House.lab g.H.Begun.begun g.H.Begun.given g.Y.Reader.Read.remaining g.Y.Writer.Write.contents g.Y.Observer.Observer.kept g.Y.Kept.Keep.shows)) l.free.items;
  count : KeepCounts g.Y.Kept.Keep.shows l.fn.free.items l.fn.busy.items l.free.items l.busy.items;
  len : vec_len l.free + vec_len l.busy ≡ vec_len l.fn.free + vec_len l.fn.busy;
  capacity : vec_capacity l.free ≡ vec_capacity l.fn.free;
  busy_capacity : vec_capacity l.busy ≡ vec_capacity l.fn.busy;
}

abbrev pub decreases-loop-index : goal.decreases-loop-index
decreases-loop-index g l = vec_len l.busy
