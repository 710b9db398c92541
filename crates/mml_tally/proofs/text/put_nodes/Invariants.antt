use Rattle.std.proofs.Common.{◌≡◌, ◌++◌, List}
use Rattle.mml_board.specs.declared.event.Event.{Event}
use Rattle.mml_tally.specs.{Moves.moves, Texts.nodes_text}
use Rattle.mml_tally.proofs.text.put_nodes.Given as goal

abbrev pub invariant-loop-index : goal.invariant-loop-index
invariant-loop-index l = (es : List Event) → l.all ≡ moves es → l.out.items ≡ l.fn.out.items ++ nodes_text l.lab es l.index
