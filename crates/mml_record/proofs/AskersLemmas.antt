-- Each student who is known in a record is a student of the lab, and is denied something only by clauses 1 to 4.
use Rattle.std.proofs.Common.{ℕ, List, [], ◌∷◌, length, take, sym, subst, Option, None, arith}
use Rattle.std.{specs.Prelude.IfSome, proofs.lemmas.List.Quantifiers.position-Some, proofs.lemmas.Bool.Decides.nat_tests}
use Rattle.mml_lab.specs.{declared.who.Who.Who, Labs.LabValue, Rosters.IsPrincipal}
use Rattle.mml_board.specs.declared.event.Event.{Event}
use Rattle.mml_codec.specs.{declared.reply.Reply.Reply}
use Rattle.mml_tally.specs.{declared.ask.Ask.Ask, AskMeaning.IsKnownOf, AskMeaning.AreAsksOf}
use Rattle.mml_record.specs.{declared.kept_entry.Entry.Entry, Certified.Fits, Asks.student_of, Asks.clause_in, DenialNames.denial_in, Asks.AreAskedOf}
use Rattle.mml_record.proofs.NamedAskersLemmas.{named_of}
use Rattle.mml_record.specs.declared.kept_entry.Entry.TheVariants as entry

module _ (lab : LabValue) (l first : List Event) where
  -- ---- the known participant, if there is one, is a principal of the lab

  abbrev IsKnownHere : Option Who → Type 0
  IsKnownHere x = IfSome x (IsPrincipal lab.roster)

  one_there : (known : Option Who) → IsKnownHere known → (line : List ℕ) (r : Reply) (known' : Option Who) → Fits lab l first known line r known'
      → IsKnownHere known'
  one_there known k line r known' fact = grind (arith, nat_tests, position-Some)

  known_of : (known : Option Who) → IsKnownHere known → (line : List ℕ) (r : Reply) (known' : Option Who) → Fits lab l first known line r known'
      → IsKnownOf (length lab.roster.students) (student_of known) (clause_in r)
  known_of known k line r known' f = grind (arith, nat_tests, named_of, denial_in r)

-- ---- all entries

pub are_asks_of : (lab : LabValue) (l : List Event) (known : Option Who) → IfSome known (IsPrincipal lab.roster) → (es : List Entry) (asks : List Ask)
    → AreAskedOf lab l known es asks → AreAsksOf (length lab.roster.students) asks
are_asks_of lab l known k [] asks h = subst (AreAsksOf (length lab.roster.students)) (sym h) tt
are_asks_of lab l known k (entry.Said p line out ∷ es) asks h =
    grind (arith, nat_tests, known_of, one_there, are_asks_of lab l h.1 (one_there lab l (take p l) known k line h.0 h.1 h.4) es h.2 h.6)
are_asks_of lab l known k (entry.Paused p ∷ es) asks h = are_asks_of lab l known k es asks h
are_asks_of lab l known k (entry.Resumed p missed ∷ es) asks h = are_asks_of lab l known k es asks h
are_asks_of lab l known k (_ ∷ es) asks h = are_asks_of lab l None tt es asks h
