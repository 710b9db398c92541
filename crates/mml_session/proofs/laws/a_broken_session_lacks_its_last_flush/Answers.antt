use Rattle.mml_session.proofs.EndingLemmas.{lacks_rest}
use Rattle.mml_session.proofs.laws.a_broken_session_lacks_its_last_flush.Goals as goal

pub returns-clause-lacks : goal.returns-clause-lacks
returns-clause-lacks c = λ lab old new input left wrote wrote' e. lacks_rest lab e.2.talk.replies e.2.last.reply wrote wrote' e.1 e.3 e.2.appended e.5 e.2.talk.goes_on
