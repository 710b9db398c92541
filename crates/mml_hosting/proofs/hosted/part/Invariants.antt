use Rattle.std.{proofs.Common.◌≡◌, proofs.Common.◌≤◌, proofs.Common.◌+◌, proofs.Common.◌++◌, proofs.Common.length, proofs.Common.vec_len, proofs.Common.vec_capacity, specs.Vec.Iter.into_iter_items}
use Rattle.mml_hosting.specs.Ports.{records_of, windows_of}
use Rattle.mml_hosting.proofs.hosted.part.Given as goal

abbrev pub invariant-loop-seat : goal.invariant-loop-seat
invariant-loop-seat g l = record {
  all : l.fn.seats.items ≡ l.yielded ++ into_iter_items l.seat-iterator;
  windows : l.windows.items ≡ windows_of l.yielded;
  records : l.records.items ≡ records_of l.yielded;
  windows_room : vec_len l.windows + length (into_iter_items l.seat-iterator) ≤ vec_capacity l.windows;
  records_room : vec_len l.records + length (into_iter_items l.seat-iterator) ≤ vec_capacity l.records;
}
