use Rattle.std.proofs.Common.{◌≡◌, ℕ, ◌<◌}
use Rattle.mml_lab.specs.declared.who.Who.TheVariants as who
use Rattle.mml_lab.specs.Rosters.{owns}
use Rattle.mml_lab_file.proofs.sameness.has_same_owners.Given as goal

abbrev pub invariant-loop-index : goal.invariant-loop-index
invariant-loop-index l = (s : ℕ) → s < l.index → owns l.a (who.Student s) l.node ≡ owns l.b (who.Student s) l.node
