use Rattle.mml_hall.proofs.script.run_script.Goals as goal

pub returns-in-Ok-clause-finished : goal.returns-in-Ok-clause-finished
returns-in-Ok-clause-finished g c = rw (c.in_ok-hall.ensures.lab, c.in_ok-hall.ensures.sink) at c.in-Ok.ensures.ends

pub returns-in-Err-clause-stopped : goal.returns-in-Err-clause-stopped
returns-in-Err-clause-stopped g c = rw (c.in_ok-hall.ensures.lab, c.in_ok-hall.ensures.sink) at c.in-Err.ensures.ends
