use Rattle.std.proofs.Common.{rules}
use Rattle.mml_hosting.proofs.HouseLemmas.{are_given, badly_early, badly_logged}
use Rattle.mml_hosting.proofs.hosted.resume_host.Goals as goal

pub returns-in-Ok-write_last-clause-hosts : goal.returns-in-Ok-write_last-clause-hosts
returns-in-Ok-write_last-clause-hosts g c = rw (c.in-Ok.ensures.begun, c.in-Ok.ensures.lab) at c.in-Ok-ended.ensures.hosts

pub returns-in-Ok-write_last-clause-last : goal.returns-in-Ok-write_last-clause-last
returns-in-Ok-write_last-clause-last g c = rw (returns-in-Ok-write_last-clause-hosts g c).kept.board at c.in-Ok-write_last.ensures.told

pub returns-in-Err-clause-badly : goal.returns-in-Err-clause-badly
returns-in-Err-clause-badly g c =
    badly_early _ _ _ _ _ c.in-Err.fault (rw (c.in-Ok.ensures.begun, c.in-Ok.ensures.lab) at c.in-Err.ensures.early)

pub returns-in-Err-write_last-clause-badly : goal.returns-in-Err-write_last-clause-badly
returns-in-Err-write_last-clause-badly g c =
    let hosts = rw (c.in-Ok.ensures.begun, c.in-Ok.ensures.lab) at c.in-Ok-ended.ensures.hosts in
    rw c.closing_fault.ensures (badly_logged _ _ _ _ _ hosts _ _ _ c.in-Err-write_last.ensures.lacking)

pub host_in_house-ended-requires-clause-observers : goal.host_in_house-ended-requires-clause-observers
host_in_house-ended-requires-clause-observers g c κs within = search (rules, are_given)
