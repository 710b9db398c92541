use Rattle.std.proofs.Common.{◌≡◌, ◌≤◌, ◌+◌, [], map, length, All, vec_capacity}
use Rattle.mml_window.specs.Windows.{window}
use Rattle.mml_serving.specs.{Arriving.Takes, Serving.Numbered, Serving.ends_of}
use Rattle.mml_serving.proofs.seating.Shared.start_each.Given as goal

abbrev pub invariant-loop-index : goal.invariant-loop-index
invariant-loop-index g l = record {
  fresh : All (λ w. w ≡ window [] []) l.windows.items;
  few : l.connections ≤ length l.windows.items + l.index;
  count : length l.handles.items ≡ l.index;
  room : l.connections ≤ vec_capacity l.handles;
  numbered : Numbered 1 (map (λ h. h.promise.0.value) l.handles.items);
  came : Takes (g.A.Arrivals.to_come l.fn.arrivals) (g.A.Arrivals.to_come l.arrivals) (map ends_of (map (λ h. h.promise.0.value) l.handles.items));
}
