use Rattle.std.proofs.Common.{rules, ap, sym}
use Rattle.mml_window.proofs.{AboutLemmas.report_is, AboutLemmas.tells_entered, AboutLemmas.window_entered}
use Rattle.mml_policy.specs.declared.command.Command.TheVariants as command
use Rattle.mml_policy.specs.declared.ruling.Ruling.TheVariants as rulings
use Rattle.mml_window.proofs.window.Window.report.Goals as goal

pub returns-clause-tells : goal.returns-clause-tells
returns-clause-tells g c =
    tells_entered (λ r. rulings.Reported) g.H.House.lab c.deref.result.now _ _ _ _ _ c.args.who command.Report _ _ _ _ _ _
    (search rules) c.in-Some.ensures.saw c.leave.ensures (ap (λ x. x.board) c.get.ensures) (sym c.self.view_is) c.report_at-report.ensures.ruled

pub returns-clause-nodes : goal.returns-clause-nodes
returns-clause-nodes g c =
    report_is g.H.House.lab c.self.invariant.0.lawful (λ r. rulings.Reported) c.args.self.now _ c.args.who command.Report _ (returns-clause-tells g c)
    (search rules)

pub invariant_of-self-2 : goal.invariant_of-self-2
invariant_of-self-2 g c = search (rules, window_entered g.H.House.lab _ _ _ _ _ _ _ _ c.in-Some.ensures.saw c.leave.ensures c.self.invariant.0)
