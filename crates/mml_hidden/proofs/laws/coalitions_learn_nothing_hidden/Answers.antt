use Rattle.std.proofs.{Common.arith}
use Rattle.mml_hall.specs.Turns.{opening}
use Rattle.mml_audit.proofs.AuditMeaningLemmas.{reached_first}
use Rattle.mml_hidden.proofs.{SightLemmas.others_afterwards, CoalitionsLemmas.their_turn, CoalitionsLemmas.same_for}
use Rattle.mml_hidden.proofs.laws.coalitions_learn_nothing_hidden.Goals as goal

pub returns-clause-afterwards : goal.returns-clause-afterwards
returns-clause-afterwards c ids r limit h w v members s k in_w in_v a is t there = others_afterwards ids r limit h w v s t k in_w in_v (a s is) (a t there)

pub returns-clause-turn : goal.returns-clause-turn
returns-clause-turn c lab other members one st su m k line t is a theirs = grind (arith, their_turn lab other t members one is st su a m k line theirs)

pub returns-clause-connections : goal.returns-clause-connections
returns-clause-connections c lab other members some one st su bs t is a stay theirs = grind (arith, same_for lab other t members one is st su bs a stay)

pub returns-clause-transcripts : goal.returns-clause-transcripts
returns-clause-transcripts c lab other members some one t u bs is alike =
    grind (arith, same_for lab other alike.labs.twins members one is (opening lab) (opening other) bs, reached_first)
