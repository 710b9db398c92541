use Rattle.mml_laws.proofs.EndsLemmas.{over_is_stable}
use Rattle.mml_laws.proofs.laws.ends.a_house_that_is_over_is_stable.Goals as goal

pub returns : goal.returns
returns c s = λ bytes lab first contents windows log spelled left room running none.
    over_is_stable bytes lab log.events log.board log.halted spelled left.book.legal left.board room running none
