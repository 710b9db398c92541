use Rattle.std.proofs.Common.{ℕ, List}
use Rattle.mml_class.specs.{Classes.Tell, inside.Seats.AreReadSoFar}
use Rattle.mml_class.proofs.class_record.read_class.Given as goal

abbrev pub invariant-seats : goal.invariant-seats
invariant-seats g l =
    (start : List ℕ) (texts : ℕ → List ℕ) → Tell (g.S.Seats.begun l.seats) (g.S.Seats.text l.seats) start texts
    → AreReadSoFar l.lab l.events l.with_asks texts l.seat l.findings l.granted.items l.asks.items
