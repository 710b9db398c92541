use Rattle.std.proofs.lemmas.Result.{IfOk-weaker}
use Rattle.mml_host_program.proofs.class.Ready.begin.Goals as goal

pub returns-in-Ok : goal.returns-in-Ok
returns-in-Ok g c =
    IfOk-weaker c.serve_to_the_end-ended.result _ _
    (λ log ends. record { between = g.W.Write.contents c.announce.new.writer; first = c.in-Ok.ensures; ends = ends })
    c.serve_to_the_end-ended.ensures
