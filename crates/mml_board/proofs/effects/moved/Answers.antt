use Rattle.mml_board.proofs.WorldLemmas.{partner_within}
use Rattle.mml_board.proofs.effects.moved.Goals as goal

pub effect-requires-clause-partner : goal.effect-requires-clause-partner
effect-requires-clause-partner c = partner_within _ c.args.node c.in-Some.rule c.size-size.ensures.lawful (c.requires.holds c.in-Some.rule c.in-Some.is)
