use Rattle.std.proofs.Common.{[]}
use Rattle.mml_host_program.proofs.TellingLemmas.{ends_well}
use Rattle.mml_host_program.proofs.class.Ready.serve_to_the_end.Goals as goal

pub returns-in-Ok : goal.returns-in-Ok
returns-in-Ok g c =
    let hosted = c.in-Ok.ensures in
    ends_well _ _ _ _ _ _ _ _ _ _ _ c.in-Ok.house c.log_of.result c.log_of.ensures hosted.unhalted [] hosted.hosts hosted.last
