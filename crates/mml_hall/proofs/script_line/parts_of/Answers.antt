use Rattle.std.proofs.Common.{arith, sym}
use Rattle.mml_hall.proofs.ScriptLinesLemmas.{script_line_read}
use Rattle.mml_hall.proofs.script_line.parts_of.Goals as goal

pub returns-then-request-le-MAX_REQUEST : goal.returns-then-request-le-MAX_REQUEST
returns-then-request-le-MAX_REQUEST c =
    script_line_read c.args.line.now c.in_ok-connection.request.now c.in_ok-connection.connection c.args.sessions c.requires
    (sym c.in_ok-connection.ensures) (omega arith) (omega (arith, c.from.ensures)) (omega arith)
