use Rattle.std.proofs.{Common.◌+◌, Common.refl, Common.arith, lemmas.Bool.Decides.nat_tests, lemmas.Result.err_from_is_err_and}
use Rattle.mml_ids.specs.inside.WordsLemmas.{has_empty}
use Rattle.mml_class.proofs.ClassLemmas.{next_seat, bad_seat}
use Rattle.mml_class.proofs.class_record.read_class.Goals as goal

pub seats-init : goal.seats-init
seats-init g c = λ start texts tell. grind (arith, nat_tests, has_empty)

pub seats-preserved : goal.seats-preserved
seats-preserved g c = λ start texts tell.
    next_seat c.args.lab.now c.args.events.now texts c.args.with_asks c.seats.seat _ _ _ _ _ _ _ refl (c.seats.invariant start texts tell)
    (c.in_ok-read_seat.ensures.ok (texts (c.seats.seat + 1)) (tell.1 (c.seats.seat + 1)))

pub returns-in_err-read_seat-clause-refused : goal.returns-in_err-read_seat-clause-refused
returns-in_err-read_seat-clause-refused g c = λ start texts tell.
    let p = err_from_is_err_and c.from_residual-in_err-read_seat.result c.from_residual-in_err-read_seat.ensures.1 in
    rw (p.1, p.2)
    (bad_seat c.args.lab.now c.args.events.now texts c.args.with_asks start c.seats.seat _ _ _ _ _ refl
    (omega (arith, c.seats-test.true, c.sessions-seat-end.ensures)) (c.seats.invariant start texts tell)
    (c.in_err-read_seat.ensures.refused (texts (c.seats.seat + 1)) (tell.1 (c.seats.seat + 1))))

pub returns-in-Some-clause-refused : goal.returns-in-Some-clause-refused
returns-in-Some-clause-refused g c = λ start texts tell.
    grind (arith, nat_tests, c.in_ok-begun.ensures start tell.0, c.seats.invariant start texts tell)

pub returns-clause-passes : goal.returns-clause-passes
returns-clause-passes g c = λ start texts tell. grind (arith, nat_tests, c.in_ok-begun.ensures start tell.0, c.seats.invariant start texts tell)
