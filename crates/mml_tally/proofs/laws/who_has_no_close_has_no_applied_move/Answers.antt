use Rattle.std.proofs.Common.{◌==◌, ap}
use Rattle.mml_tally.specs.{Marks.by_rule, Meaning.total}
use Rattle.mml_tally.proofs.ClosesLemmas.{no_close}
use Rattle.mml_tally.proofs.laws.who_has_no_close_has_no_applied_move.Goals as goal

pub returns : goal.returns
returns c = λ r es s none. ap (λ ms. total (by_rule ms)) (no_close (λ m. m.who == s) es none)
