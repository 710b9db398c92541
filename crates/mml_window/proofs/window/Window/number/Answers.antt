use Rattle.std.proofs.Common.{rules}
use Rattle.mml_window.proofs.AboutLemmas.{window_entered}
use Rattle.mml_window.proofs.window.Window.number.Goals as goal

pub invariant_of-self-2 : goal.invariant_of-self-2
invariant_of-self-2 g c = search (rules, window_entered g.H.House.lab _ _ _ _ _ _ _ _ c.in-Some.ensures.saw c.leave.ensures c.self.invariant.0)
