use Rattle.std.proofs.Common.{◌≡◌}
use Rattle.mml_board.specs.World.{configuration}
use Rattle.mml_stable.specs.{Reports.each_below, Reports.open_links_at, inside.Rest.IsFreeFrom}
use Rattle.mml_stable.proofs.reporting.open_links.Given as goal

abbrev pub invariant-loop-index : goal.invariant-loop-index
invariant-loop-index l = record {
  links : l.all.items ≡ each_below l.index (open_links_at (configuration l.board));
  rest : IsFreeFrom (configuration l.board) l.index l.rest;
}
