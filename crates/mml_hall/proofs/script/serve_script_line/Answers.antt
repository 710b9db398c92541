use Rattle.std.proofs.Common.{append_assoc, Ok}
use Rattle.mml_lines.proofs.SendingLemmas.{nothing_sent}
use Rattle.mml_hall.specs.ScriptLines.{line_of}
use Rattle.mml_hall.proofs.{ScriptsLemmas.serves_line, TurnsLemmas.told_turn}
use Rattle.mml_hall.proofs.script.serve_script_line.Goals as goal

pub returns-then-append-clause-serves : goal.returns-then-append-clause-serves
returns-then-append-clause-serves g c =
    let lines = rw (c.lab.ensures.lab, c.answer_into.ensures.lab, c.requires.front, append_assoc) at c.if-append.ensures.lines in
    serves_line (Ok tt) _ _ _ _
    (record { line = line_of c.args.line; reply = c.answer_into.new.reply; valid = c.requires.script; turn = c.answer_into.ensures.turn })
    (rw lines (nothing_sent _ _)) tt

pub returns-clause-serves : goal.returns-clause-serves
returns-clause-serves g c =
    let tells = rw (c.lab.ensures.lab, c.answer_into.ensures.lab, c.if-append.ensures.lines, c.requires.front) at c.write_by_buffer-told.ensures.tells in
    let turn = told_turn c.args.hall.now.lab c.args.hall.now.state c.args.line.connection _ _ tells.0 c.answer_into.ensures.turn tells.1 in
    serves_line c.write_by_buffer-told.result _ _ _ _ (record { line = line_of c.args.line; reply = tells.0; valid = c.requires.script; turn = turn })
    (rw append_assoc at tells.2) (rw append_assoc at tells.3)
