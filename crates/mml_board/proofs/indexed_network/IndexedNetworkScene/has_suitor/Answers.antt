use Rattle.std.proofs.{Common.arith, lemmas.List.get_or_default}
use Rattle.mml_board.proofs.RowsLemmas.{suitors-read}
use Rattle.mml_board.proofs.indexed_network.IndexedNetworkScene.has_suitor.Goals as goal

pub returns : goal.returns
returns c =
    let inside = c.self.inside in
    grind (arith, suitors-read inside.network inside.suitors.items inside.free inside.believing c.index-2.result.now, get_or_default)
