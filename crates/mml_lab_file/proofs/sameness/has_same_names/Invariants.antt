use Rattle.std.proofs.Common.{◌≡◌, ℕ, ◌<◌}
use Rattle.mml_lab.specs.declared.who.Who.TheVariants as who
use Rattle.mml_lab.specs.Rosters.{name_of}
use Rattle.mml_lab_file.proofs.sameness.has_same_names.Given as goal

abbrev pub invariant-loop-index : goal.invariant-loop-index
invariant-loop-index l = (s : ℕ) → s < l.index → name_of l.a (who.Student s) ≡ name_of l.b (who.Student s)
