use Rattle.std.proofs.Common.{true, false, arith}
use Rattle.mml_policy.specs.Verdicts.{clauses}
use Rattle.mml_policy.proofs.VerdictLemmas.{of_kind}
use Rattle.mml_policy.proofs.laws.no_act_is_shown_and_no_view_is_granted.Goals as goal

pub returns-clause-acts : goal.returns-clause-acts
returns-clause-acts c ids r w x k h e = grind (arith, clauses ids r w x k, of_kind ids r w x k true h)

pub returns-clause-views : goal.returns-clause-views
returns-clause-views c ids r w x k e h granted = grind (arith, clauses ids r w x k, of_kind ids r w x k false h)
