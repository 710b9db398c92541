use Rattle.std.proofs.Common.{[], inl, inr, sym, ◌∙◌, append-nil}
use Rattle.mml_engine.proofs.{TurnsLemmas.turn_does, NamingLemmas.Lists, NamingLemmas.told_on}
use Rattle.mml_engine.proofs.laws.seen_goes_on.Goals as goal

pub returns : goal.returns
returns c lab known known' old new line r h = elim (turn_does Lists lab.roster known lab old line r known' lab new h) [
  | inl quiet ↦ ([], append-nil old ∙ sym quiet.view)
  | inr t ↦ told_on lab old new t.who t.command r t.told
]
