use Rattle.std.proofs.{Common.rules, Common.◌≡◌, Common.take, lemmas.List.take_all}
use Rattle.mml_hosting.proofs.port_serving.first_done.Goals as goal

pub returns-clause-none : goal.returns-clause-none
returns-clause-none g c =
    let all : c.args.busy.now.items ≡ take c.loop-candidate.candidate c.args.busy.now.items = search (rules, take_all) in rw all c.loop-candidate.invariant
