-- After the refusal `journal`, a record grants nothing until an entry says that anything may be missing. If no refusal
-- in the record is outlived, no other seat was granted anything either. A life of the server is the time from its start
-- to its end. A record shows the end of a life by an entry which says that anything may be missing.
use Rattle.std.{specs.Prelude.IfSome, specs.List.AllByRecursion, proofs.lemmas.Bool.Decides.nat_tests}
use Rattle.std.proofs.Common.{◌≡◌, ℕ, ◌≤◌, true, false, List, [], ◌∷◌, ◌++◌, length, refl, ap, append-nil, Option, None, Some, arith}
use Rattle.mml_lab.specs.{declared.who.Who.Who, Labs.LabValue}
use Rattle.mml_board.specs.declared.event.Event.{Event}
use Rattle.mml_codec.specs.{Replies.place_in, Replies.reply_line}
use Rattle.mml_session.specs.Turns.{is_bye}
use Rattle.mml_record.specs.{declared.kept_entry.Entry.Entry, declared.stage.Stage.Stage, Entries.seen_by, Entries.NeverFall, Losses.are_cut, Halts.first_halt, Halts.outlived}
use Rattle.mml_record.specs.Certified.{phase_after, stage_after, is_journal, seen_after, GoesOn, first_stage}
use Rattle.mml_record.proofs.{FallLemmas.never_fall, CountedLemmas.journal_line, CountedLemmas.journal_or_not, CountedLemmas.refused_at, CountedLemmas.refused_most}
use Rattle.mml_codec.specs.declared.reply.Refused.TheVariants as refused
use Rattle.mml_codec.specs.declared.reply.Reply.TheVariants as replies
use Rattle.mml_record.specs.declared.kept_entry.Entry.TheVariants as entry

-- ---- how long a life of the server is

-- how many events there were when a life ended, as far as the record shows: those that the next entry names which says
-- that anything may be missing, or all n if there is none
abbrev life : ℕ → List Entry → ℕ
life n [] = n
life n (entry.Unrecorded p ∷ es) = p
life n (_ ∷ es) = life n es

life_on : (n : ℕ) (es fs : List Entry) → are_cut es ≡ false → life n (es ++ fs) ≡ life n fs
life_on n [] fs uncut = refl
life_on n (e ∷ es) fs uncut = grind (arith, nat_tests, life_on n es fs)

module _ (lab : LabValue) (n : ℕ) where
  life_is : (q p least : ℕ) (es : List Entry) → q ≤ p → p ≤ least → p ≤ n → NeverFall least es → outlived lab n (Some q) es ≡ None → life n es ≡ p
  life_is q p least [] before le within falls none = grind (arith, nat_tests)
  life_is q p least (e ∷ es) before le within falls none = grind (arith, nat_tests, falls.0, falls.1, life_is q p (seen_by e) es)

  -- the first refusal in the same life, after one more entry
  abbrev first_after : Option ℕ → Entry → Option ℕ
  first_after at (entry.Said p line out) = first_halt at p (is_journal lab out)
  first_after at (entry.Unrecorded p) = None
  first_after at _ = at

  -- the entries come after `least` events and the first refusal `at` of their life; no refusal is outlived
  abbrev Lives : Option ℕ → ℕ → List Entry → Type 0
  Lives at least es = IfSome at (λ q. q ≤ least) × NeverFall least es × AllByRecursion (λ p. p ≤ n) (refused_at lab es) × (outlived lab n at es ≡ None)

  -- if a refusal isn't outlived, its life ends after as many events as had been seen at it
  ends_there : (front back : List Entry) (at : Option ℕ) (least p : ℕ) (line out : List ℕ) → is_journal lab out ≡ true
      → Lives at least (front ++ entry.Said p line out ∷ back) → life n back ≡ p
  ends_there [] back None least p line out named h = grind (arith, nat_tests, life_is p p p back)
  ends_there [] back (Some q) least p line out named h = grind (arith, nat_tests, life_is q p p back)
  ends_there (e ∷ es) back at least p line out named h =
      ends_there es back (first_after at e) (seen_by e) p line out named (grind (arith, nat_tests, at, h))

module _ (lab : LabValue) (l : List Event) where
  granted_none : (known : Option Who) (stage : Stage) (least : ℕ) (es : List Entry) (ps : List ℕ) → GoesOn lab l known stage least es ps
      → stage.is_halted ≡ true → are_cut es ≡ false → ps ≡ []
  granted_none known stage least [] ps h halted uncut = h
  granted_none known stage least (e ∷ es) ps h halted uncut =
      let rest = λ (x : Option Who) (s : Stage) (n : ℕ) (qs : List ℕ). granted_none x s n es qs in grind (arith, nat_tests, rest)

  abbrev journal : List ℕ
  journal = reply_line lab.ids lab.roster (replies.Refuse refused.Journal)

  named : is_journal lab journal ≡ true
  named = journal_line lab (replies.Refuse refused.Journal)

  pub front_grants : (known : Option Who) (stage : Stage) (least : ℕ) (front back : List Entry) (p : ℕ) (line ps : List ℕ) → are_cut back ≡ false
      → GoesOn lab l known stage least (front ++ entry.Said p line journal ∷ back) ps → GoesOn lab l known stage least front ps
  front_grants known stage least [] back p line ps uncut h =
      grind (arith, nat_tests, stage_after lab stage (phase_after (is_bye h.3)) journal, granted_none, named, journal_line, journal_or_not)
  front_grants known stage least (entry.Said q asked out ∷ es) back p line ps uncut h =
      let next = stage_after lab stage (phase_after (is_bye h.3)) out in
      let rest = front_grants h.4 next (seen_after q (place_in h.3)) es back p line h.5 uncut h.10 in
      (h.0, h.1, h.2, h.3, h.4, h.5, h.6, h.7, h.8, h.9, rest)
  front_grants known stage least (e ∷ es) back p line ps uncut h =
      let rest = λ (x : Option Who) (s : Stage) (n : ℕ) (qs : List ℕ). front_grants x s n es back p line qs uncut in
      grind (arith, nat_tests, rest)

  ends_at : (front back : List Entry) (p : ℕ) (line ps : List ℕ) → GoesOn lab l None first_stage 0 (front ++ entry.Said p line journal ∷ back) ps
      → outlived lab (length l) None (front ++ entry.Said p line journal ∷ back) ≡ None → life (length l) back ≡ p
  ends_at front back p line ps h none =
      let es = front ++ entry.Said p line journal ∷ back in
      let lives : Lives lab (length l) None 0 es = (tt, never_fall lab l None first_stage 0 es ps h, refused_most lab l None first_stage 0 es ps h, none) in
      ends_there lab (length l) front back None 0 p line journal named lives

  -- if no refusal of the record is outlived, no events follow one up to the end of the server's life
  pub ends_with : (front back : List Entry) (p : ℕ) (line ps : List ℕ) → GoesOn lab l None first_stage 0 (front ++ entry.Said p line journal ∷ back) ps
      → outlived lab (length l) None (front ++ entry.Said p line journal ∷ back) ≡ None → are_cut back ≡ false → p ≡ length l
  ends_with front back p line ps h none uncut =
      omega (arith, ends_at front back p line ps h none, life_on (length l) back [] uncut, ap (life (length l)) (append-nil back))

  pub cut_with : (front mid rest : List Entry) (p q : ℕ) (line ps : List ℕ)
      → GoesOn lab l None first_stage 0 (front ++ entry.Said p line journal ∷ (mid ++ entry.Unrecorded q ∷ rest)) ps
      → outlived lab (length l) None (front ++ entry.Said p line journal ∷ (mid ++ entry.Unrecorded q ∷ rest)) ≡ None → are_cut mid ≡ false → q ≡ p
  cut_with front mid rest p q line ps h none uncut =
      omega (arith, ends_at front (mid ++ entry.Unrecorded q ∷ rest) p line ps h none, life_on (length l) mid (entry.Unrecorded q ∷ rest) uncut)
