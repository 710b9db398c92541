-- Which move is chosen at a node.
use Rattle.std.specs.{Prelude.◌≡◌, Prelude.ℕ, Prelude.true, Prelude.List, Prelude.◌∷◌, Prelude.◌++◌, List.list_all}
use Rattle.mml_rules.specs.declared.rule.Rule.{Rule}
use Rattle.mml_board.specs.declared.event.Event.{Event}
use Rattle.mml_tally.specs.Meaning.{leaves}
use Rattle.mml_board.specs.declared.event.Event.TheVariants as event

-- one of the events grants the rule at node i, and no later event changes the choice there
pub record IsGrantedLast (es : List Event) (i : ℕ) (q : Rule) : Type 0 where
  pub before : List Event
  pub owner : ℕ
  pub later : List Event
  pub order : es ≡ before ++ event.Grant owner i q ∷ later
  pub leave : list_all (leaves i) later ≡ true
