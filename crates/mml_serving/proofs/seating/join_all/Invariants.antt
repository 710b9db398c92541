use Rattle.std.proofs.Common.{◌≡◌, ◌≤◌, ◌+◌, ◌++◌, map, length, vec_len, vec_capacity}
use Rattle.std.specs.Vec.Iter.{into_iter_items}
use Rattle.mml_serving.specs.Serving.{Each, IsServed}
use Rattle.mml_serving.proofs.seating.join_all.Given as goal

abbrev pub invariant-loop-handle : goal.invariant-loop-handle
invariant-loop-handle g l = record {
  all : l.fn.handles.items ≡ l.yielded ++ into_iter_items l.handle-iterator;
  served : Each (IsServed g.H.House.lab g.R.Read.remaining g.W.Write.contents) (map (λ h. h.promise.0.value) l.yielded) l.sessions.items l.windows.items;
  windows_room : vec_len l.windows + length (into_iter_items l.handle-iterator) ≤ vec_capacity l.windows;
  sessions_room : vec_len l.sessions + length (into_iter_items l.handle-iterator) ≤ vec_capacity l.sessions;
}
