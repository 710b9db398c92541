use Rattle.mml_lines.proofs.SendingLemmas.{nothing_sent}
use Rattle.mml_hall.proofs.script.serve_line.Goals as goal

pub returns-in-None-clause-serves : goal.returns-in-None-clause-serves
returns-in-None-clause-serves g c = (rw (c.sessions.ensures, c.lab.ensures.lab) at c.in-None.ensures.none, nothing_sent _ _)
