use Rattle.std.{proofs.Common.◌≡◌, proofs.Common.◌<◌, proofs.Common.length, specs.Prelude.All}
use Rattle.mml_lab.specs.Rosters.{owns}
use Rattle.mml_stable.specs.Reports.{each_below, listed_if}
use Rattle.mml_lab.specs.declared.who.Who.TheVariants as who
use Rattle.mml_tally.proofs.owners.owners_of.Given as goal

abbrev pub invariant-loop-index : goal.invariant-loop-index
invariant-loop-index l = record {
  owners : l.owners.items ≡ each_below l.index (λ s. listed_if (owns l.roster (who.Student s) l.node) s);
  members : All (λ s. s < length l.roster.students) l.owners.items;
}
