use Rattle.std.proofs.{Common.arith, lemmas.List.drop_more, lemmas.Bool.eq-eqb, lemmas.Bool.ne_eqb}
use Rattle.mml_tally.proofs.{ReplayLemmas.one_event_more, rounds.count_rounds.Goals.then-len-eq0, rounds.count_rounds.Goals.else-len-eq0}
use Rattle.mml_tally.proofs.rounds.count_rounds.Goals as goal

pub events-preserved : goal.events-preserved
events-preserved c = grind (arith, one_event_more, drop_more, then-len-eq0, else-len-eq0, eq-eqb, ne_eqb)
