use Rattle.std.{proofs.Common.◌∙◌, proofs.Common.ap, proofs.Common.is_some, specs.List.list_any}
use Rattle.mml_board.proofs.ChoicesLemmas.{any_chosen}
use Rattle.mml_board.proofs.choices.Choices.is_any.Goals as goal

pub returns : goal.returns
returns c =
    any_chosen c.self.inside.rules.items c.self.inside.nodes c.is_empty.result c.self.invariant c.is_empty.ensures
    ∙ ap (list_any is_some) c.self.view_is
