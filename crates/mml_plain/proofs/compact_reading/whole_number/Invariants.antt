use Rattle.std.proofs.Common.{◌≡◌, ◌≤◌, ◌<◌, ◌-◌, length, take, decimal}
use Rattle.mml_plain.proofs.compact_reading.whole_number.Given as goal

abbrev pub invariant-number : goal.invariant-number
invariant-number l = record {
  bound : l.end ≤ length l.text;
  text : take l.end l.text ≡ decimal l.number;
  some : 1 ≤ l.number;
  few : l.number < 10000000000000000000;
}

abbrev pub decreases-number : goal.decreases-number
decreases-number l = length l.text - l.end
