use Rattle.std.proofs.Common.{inl, inr}
use Rattle.mml_engine.proofs.{TurnsLemmas.turn_does, NamingLemmas.Lists, NamingLemmas.none_named, NamingLemmas.told_names}
use Rattle.mml_engine.proofs.laws.replies_name_their_events.Goals as goal

pub returns : goal.returns
returns c lab known known' old new line r p h named = elim (turn_does Lists lab.roster known lab old line r known' lab new h) [
  | inl quiet ↦ none_named r p quiet.nameless named
  | inr t ↦ told_names lab known line new r p named old t.who t.command t.told t.by t.asked
]
