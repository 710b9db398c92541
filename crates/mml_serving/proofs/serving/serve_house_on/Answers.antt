use Rattle.std.proofs.Common.{inl, inr, refl, arith}
use Rattle.mml_serving.proofs.serving.serve_house_on.Goals as goal

pub returns-in-Err-clause-badly : goal.returns-in-Err-clause-badly
returns-in-Err-clause-badly g c = inl c.in-Err.ensures.badly

pub returns-else-all_had_memory-clause-badly : goal.returns-else-all_had_memory-clause-badly
returns-else-all_had_memory-clause-badly g c =
    let ok = c.in-Ok.ensures in inr (refl, record { sessions = _; log = _; serves = ok.served; unhalted = ok.unhalted; last = ok.last; lacked = grind arith })
