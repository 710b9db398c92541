use Rattle.mml_serving.proofs.serving.serve_on.Goals as goal

pub returns-in-Ok-clause-served : goal.returns-in-Ok-clause-served
returns-in-Ok-clause-served g c =
    let ok = c.in-Ok.ensures in record { sessions = _; log = _; serves = ok.served; unhalted = ok.unhalted; last = ok.last; memory = ok.had_memory }
