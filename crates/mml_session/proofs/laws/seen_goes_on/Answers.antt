use Rattle.mml_session.proofs.TalkLemmas.{turn_seen}
use Rattle.mml_session.proofs.laws.seen_goes_on.Goals as goal

pub returns-clause-turn : goal.returns-clause-turn
returns-clause-turn c = turn_seen
