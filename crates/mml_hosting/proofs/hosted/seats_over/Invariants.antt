use Rattle.std.proofs.Common.{◌≡◌, ◌≤◌, ◌+◌, [], All, length, vec_len, vec_capacity}
use Rattle.std.specs.{List.range_with_len, Vec.Iter.into_iter_items}
use Rattle.mml_window.specs.Windows.{window}
use Rattle.mml_hosting.specs.{Seats.AreGiven, Ports.numbers_of, Ports.records_of, Hosting.IsUnused}
use Rattle.mml_hosting.proofs.hosted.seats_over.Given as goal

abbrev pub invariant-loop-observer : goal.invariant-loop-observer
invariant-loop-observer g l = record {
  rest : All (λ w. w ≡ window g.H.Begun.begun []) l.windows.items;
  given : AreGiven g.H.Begun.given g.C.Observer.kept l.number (into_iter_items l.observer-iterator);
  unused : All (IsUnused g.H.Begun.begun g.H.Begun.given g.C.Observer.kept) l.seats.items;
  numbers : numbers_of (records_of l.seats.items) ≡ range_with_len l.fn.first (vec_len l.seats);
  next : l.number ≡ l.fn.first + vec_len l.seats;
  count : vec_len l.seats + vec_len l.windows ≡ vec_len l.fn.windows;
  left : length (into_iter_items l.observer-iterator) ≡ vec_len l.windows;
  room : vec_len l.seats + vec_len l.windows ≤ vec_capacity l.seats;
}
