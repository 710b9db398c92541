use Rattle.mml_host_program.proofs.TellingLemmas.{told_resumed}
use Rattle.mml_host_program.proofs.class.Ready.go_on_after.Goals as goal

pub returns-in-Ok : goal.returns-in-Ok
returns-in-Ok g c =
    let resumed = c.in-Ok.ensures in
    told_resumed _ _ _ _ _ _ _ _ _ _ _ _ _ c.in-Ok.house c.log_of.result _ _ c.log_of.ensures resumed.unhalted resumed.resumes c.requires.first
