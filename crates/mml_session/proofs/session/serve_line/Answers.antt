use Rattle.std.proofs.Common.{refl}
use Rattle.mml_session.specs.Turns.{standing}
use Rattle.mml_session.proofs.TellingLemmas.{turn_told}
use Rattle.mml_session.proofs.session.serve_line.Goals as goal

pub returns-in-Ok-clause-serves : goal.returns-in-Ok-clause-serves
returns-in-Ok-clause-serves g c =
    let line = c.args.session.now.lines.line in
    let tells = rw (c.seen_count.ensures, c.bytes-line.ensures) at c.tell.ensures.tells in
    let turn = turn_told g.H.House.lab (standing c.args.session.now.known c.args.window.now) (standing c.answer_into.new.known c.answer_into.new.window)
    line _ _ tells.1 (rw c.bytes-line.ensures at c.in-Ok.ensures.turn) in
    (record { line = line; reply = tells.0; valid = c.requires.line; turn = turn }, refl, tells.2, tells.3)
