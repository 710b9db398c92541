use Rattle.std.proofs.Common.{arith, rules}
use Rattle.mml_board.specs.World.{configuration}
use Rattle.mml_stable.proofs.ReportsLemmas.{all_left, one_past}
use Rattle.mml_stable.proofs.reporting.open_links.Goals as goal

pub loop-index-init : goal.loop-index-init
loop-index-init c = search (rules, all_left)

pub loop-index-preserved : goal.loop-index-preserved
loop-index-preserved c = record {
  links = search rules;
  rest = one_past (configuration c.args.board.now) c.loop-index.index c.loop-index.rest _ c.loop-index.invariant.rest (grind arith);
}
