use Rattle.std.proofs.{Common.◌++◌, Common.[], Common.arith}
use Rattle.mml_ids.proofs.SetsLemmas.{one_put}
use Rattle.mml_board.specs.World.{size, configuration}
use Rattle.mml_board.proofs.KeptLemmas.{in_remove}
use Rattle.mml_stable.specs.{Reports.open_link, Reports.open_links_at}
use Rattle.mml_stable.proofs.ReportsLemmas.{both_ends}
use Rattle.mml_stable.proofs.reporting.put_open_links.Goals as goal

pub loop-b-preserved : goal.loop-b-preserved
loop-b-preserved c =
    let d = configuration c.args.board.now in
    let links = c.args.all.now.items ++ open_links_at d c.args.a in
    let taken = c.in-Some.ensures in
    record {
      each = grind (arith, in_remove);
      so_far = one_put (open_link d c.args.a) (size c.args.board.now) c.loop-b.left _ c.in-Some.b c.loop-b.all.items _ links
          taken.member taken.least (grind (arith, both_ends)) taken.rest (grind arith) c.loop-b.invariant.so_far;
    }
