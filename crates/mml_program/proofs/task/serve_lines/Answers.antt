use Rattle.mml_program.proofs.task.serve_lines.Goals as goal

pub returns-in-Ok : goal.returns-in-Ok
returns-in-Ok g c = record {
  between = g.W.Write.contents c.write_listening.new.writer;
  first = c.in_ok-write_listening.ensures;
  serves = c.in-Ok.ensures.served;
  unhalted = c.in-Ok.ensures.unhalted;
  last = c.in-Ok.ensures.last;
}
