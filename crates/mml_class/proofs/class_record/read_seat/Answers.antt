use Rattle.std.proofs.Common.{List, ℕ}
use Rattle.mml_record.specs.declared.verdict.Verdict.TheVariants.{Passed}
use Rattle.mml_class.specs.inside.Seats.{IsSeatRead}
use Rattle.mml_class.proofs.ClassLemmas.{opened}
use Rattle.mml_class.proofs.class_record.read_seat.Goals as goal

pub returns-in-Passed-clause-ok : goal.returns-in-Passed-clause-ok
returns-in-Passed-clause-ok g c = λ text tell.
    let t = c.together-sum.ensures in
    let read = opened (g.S.Seats.text c.args.seats.now c.args.number) (g.R.Read.remaining c.in_ok-reader.reader) text
    (λ (xs : List ℕ). IsSeatRead c.args.lab.now c.args.events.now c.args.number c.args.with_asks xs c.args.granted.now.items c.read_text.new.granted.items
    c.args.asks.now.items c.read_text.new.asks.items (Passed c.in-Passed.found)) tell c.in_ok-reader.ensures (rw c.in-Passed.is at c.in_ok-found.ensures) in
    record { found = c.in-Passed.found; read = read; together = (t.sessions, t.lines, t.whole, t.cut, t.lacks) }
