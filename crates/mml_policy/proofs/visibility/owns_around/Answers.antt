use Rattle.std.proofs.Common.{◌∙◌, ap}
use Rattle.std.specs.FinSet as sets
use Rattle.mml_board.specs.World.{configuration}
use Rattle.mml_policy.proofs.VisibleLemmas.{has_around, around_is_some}
use Rattle.mml_policy.proofs.visibility.owns_around.Goals as goal

pub returns : goal.returns
returns c =
    let r = c.args.roster.now in
    let g = configuration c.args.board.now in
    c.is_some.ensures
    ∙ around_is_some r g c.args.who c.args.node c.both.result c.greatest.result c.size-size.ensures.lawful
    (has_around r g c.args.who c.args.node c.neighbours.result c.with-around.result c.owned.result c.both.result
    (λ j. ap (λ s. sets.contains s j) c.neighbours.ensures) c.with-around.ensures c.owned.ensures c.both.ensures)
    c.greatest.ensures.member c.greatest.ensures.none
