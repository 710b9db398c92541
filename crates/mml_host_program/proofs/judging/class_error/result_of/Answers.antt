use Rattle.std.proofs.Common.{Err, ap}
use Rattle.mml_host_program.proofs.judging.class_error.result_of.Goals as goal

pub returns-in-Err-clause-lacked : goal.returns-in-Err-clause-lacked
returns-in-Err-clause-lacked c = rw c.in-Err.is (λ lacked. ap Err (c.memory_if_lacked.ensures.memory lacked))
