use Rattle.std.{specs.Prelude.IfSome, proofs.Common.◌≡◌, proofs.Common.◌++◌, proofs.Common.List, proofs.Common.length}
use Rattle.mml_lab.specs.Rosters.{IsPrincipal}
use Rattle.mml_record.specs.{declared.kept_entry.Entry.Entry, Entries.record_text, Asks.asks_in}
use Rattle.mml_record.proofs.AskReadingLemmas.{AreTidy, ReadSoFar}
use Rattle.mml_record.proofs.asks.read_asks.Given as goal

abbrev pub invariant-entries : goal.invariant-entries
invariant-entries l = record {
  known : IfSome l.known (IsPrincipal l.lab.roster);
  read : (es : List Entry) → AreTidy es → l.text ≡ record_text l.number es
      → ReadSoFar l.lab.roster l.number l.left l.known l.asks.items (l.fn.asks.items ++ asks_in l.lab.roster es);
}

abbrev pub decreases-entries : goal.decreases-entries
decreases-entries l = length l.left
