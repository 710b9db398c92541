-- When a `see` is answered, and what the answer shows.
use Rattle.std.proofs.{Common.◌≡◌, Common.◌↔◌, Common.ℕ, Common.Bool, Common.List, Common.Some, Common.arith, lemmas.Bool.Decides.nat_tests}
use Rattle.mml_ids.specs.Ids.{rank_in}
use Rattle.mml_rules.specs.Configuration.{IsLawful}
use Rattle.mml_lab.specs.{declared.who.Who.Who, Rosters.RosterValue}
use Rattle.mml_board.specs.World.{World, configuration}
use Rattle.mml_policy.specs.{declared.ruling.Ruling.TheVariants.Seen, Rulings.ruling, Shown.see_of, Visible.IsVisible}
use Rattle.mml_policy.proofs.VisibleLemmas.{visible_means}
use Rattle.mml_policy.specs.declared.command.Command.TheVariants as command
use Rattle.mml_policy.specs.declared.see.See as TheSee

module _ (ids : List ℕ) (r : RosterValue) (limit : ℕ) (halted : Bool) (w : World) (x : Who) (lawful : IsLawful (configuration w)) where
  -- a `see` shows the registers of the node with this identifier if this node is visible to the asker
  pub see_shows : (id : ℕ) (s : TheSee.See)
      → (ruling ids r limit halted w x (command.See id) ≡ Seen s) ↔ ((i : ℕ) × (rank_in ids id ≡ Some i) × IsVisible r (configuration w) x i × (s ≡ see_of w i))
  see_shows id s = grind (arith, nat_tests, visible_means)
