use Rattle.mml_board.specs.inside.Rows.{AreRows}
use Rattle.mml_board.proofs.indexed_network.IndexedNetwork.new.Given as goal

abbrev pub invariant-loop-index : goal.invariant-loop-index
invariant-loop-index l = AreRows l.network.registers l.index l.suitors.items l.free l.believing
