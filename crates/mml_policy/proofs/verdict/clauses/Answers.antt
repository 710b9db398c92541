use Rattle.std.proofs.Common.{ap, sym, ◌∙◌}
use Rattle.mml_policy.specs.Courses.{clauses_in}
use Rattle.mml_policy.proofs.verdict.clauses.Goals as goal

pub returns-in-Link : goal.returns-in-Link
returns-in-Link c = c.may_link.ensures ∙ ap (clauses_in c.args.course.now c.args.who) (sym c.in-Link.is)

pub returns-in-Cut : goal.returns-in-Cut
returns-in-Cut c = c.may_cut.ensures ∙ ap (clauses_in c.args.course.now c.args.who) (sym c.in-Cut.is)
