use Rattle.std.proofs.Common.{rules, refl}
use Rattle.mml_window.proofs.AboutLemmas.{window_entered}
use Rattle.mml_window.proofs.window.Window.read_until_board.Goals as goal

pub invariant_of-self : goal.invariant_of-self
invariant_of-self g c = search (rules, window_entered g.H.House.lab _ _ _ _ _ _ _ _ c.look_for.ensures.2 refl c.self.invariant.0)
