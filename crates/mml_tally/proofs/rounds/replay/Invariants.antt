use Rattle.std.proofs.Common.{◌≡◌, take}
use Rattle.mml_board.specs.Lists.{world_in}
use Rattle.mml_tally.proofs.rounds.replay.Given as goal

abbrev pub invariant-events : goal.invariant-events
invariant-events l = l.board ≡ world_in l.lab (take l.index l.events)
