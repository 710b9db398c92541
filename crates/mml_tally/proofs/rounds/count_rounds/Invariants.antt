use Rattle.std.proofs.Common.{◌≡◌, ◌≤◌, ◌+◌, take, drop}
use Rattle.mml_board.specs.{World.opening_of, Lists.world_in}
use Rattle.mml_tally.specs.{Rounds.rounds_after, inside.Waiting.count_rounds}
use Rattle.mml_tally.proofs.rounds.count_rounds.Given as goal

abbrev pub invariant-events : goal.invariant-events
invariant-events l = record {
  board : l.board ≡ world_in l.lab (take l.index l.events);
  counted : l.rounds + count_rounds l.board l.waiting (drop l.index l.events) ≡ rounds_after l.since (opening_of l.lab.network) l.events;
  few : l.rounds ≤ l.index;
}
