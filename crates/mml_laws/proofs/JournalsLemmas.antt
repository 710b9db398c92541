-- Two different lists of events have different journals.
use Rattle.std.proofs.Common.{◌≡◌, ◌<◌, ◌≤◌, ◌+◌, ℕ, true, List, [], ◌∷◌, ◌++◌, length, flat_map, Result, Ok, Err, refl, sym, ap, ◌∙◌, arith}
use Rattle.std.proofs.lemmas.Bool.{and_parts, Decides.nat_tests}
use Rattle.mml_lines.specs.LinesOf.{lines_of}
use Rattle.mml_lines.proofs.LinesOfLemmas.{line_first}
use Rattle.mml_lab.specs.Labs.{LabValue, IsLab}
use Rattle.mml_board.specs.{declared.event.Event.Event, World.World, World.opening_of, Events.is_legal, Events.after, Runs.is_legal_list}
use Rattle.mml_board.proofs.EventsLemmas.{next_place}
use Rattle.mml_journal.specs.{declared.journal_fault.JournalFault.JournalFault, EventLines.event_line, EventLines.said_by, JournalText.journal_text}
use Rattle.mml_journal.proofs.{EventLineLemmas.text_is_read, LengthLemmas.line_unbroken, MemberLemmas.legal_member}
use Rattle.mml_audit.specs.AuditMeaning.{IsJournalOf}
use Rattle.mml_audit.proofs.AuditMeaningLemmas.{IsReached, reached_next, reached_first}

-- the event that a line was read as, or none
abbrev read_event : Result (ℕ × ℕ × Event) JournalFault → List Event
read_event (Ok said) = said.2 ∷ []
read_event (Err f) = []

module _ (lab : LabValue) (is : IsLab lab) where
  abbrev pub line : World → Event → List ℕ
  line w e = event_line lab.ids lab.roster (w.place + 1) w.number e

  abbrev pub lines : World → List Event → List (List ℕ)
  lines w es = lines_of (journal_text lab.ids lab.roster w es)

  pub said_next : (w : World) (e : Event) → IsReached lab w → is_legal lab.roster w e ≡ true → w.place < lab.events
      → said_by lab.ids lab.roster (line w e) ≡ Ok (w.place + 1, w.number, e)
  said_next w e on legal room = grind (arith, nat_tests, text_is_read, legal_member)

  -- the first line of a journal is that of the first event
  pub lines_next : (w : World) (e : Event) (es : List Event) → IsReached lab w → is_legal lab.roster w e ≡ true → w.place < lab.events
      → lines w (e ∷ es) ≡ line w e ∷ lines (after w e) es
  lines_next w e es on legal room =
      line_first (line w e) (journal_text lab.ids lab.roster (after w e) es) (grind (arith, nat_tests, line_unbroken, legal_member))

  -- the events of lines, each of which is the line of an event
  abbrev events_in : List (List ℕ) → List Event
  events_in ls = flat_map (λ line. read_event (said_by lab.ids lab.roster line)) ls

  read_back : (w : World) (es : List Event) → IsReached lab w → is_legal_list lab.roster w es ≡ true → w.place + length es ≤ lab.events
      → events_in (lines w es) ≡ es
  read_back w [] on legal few = refl
  read_back w (e ∷ es) on legal few =
      let both = and_parts (is_legal lab.roster w e) (is_legal_list lab.roster (after w e) es) legal in
      ap events_in (lines_next w e es on both.0 (omega (arith, few)))
      ∙ ap (λ s. read_event s ++ events_in (lines (after w e) es)) (said_next w e on both.0 (omega (arith, few)))
      ∙ ap (λ (fs : List Event). e ∷ fs) (read_back (after w e) es (reached_next lab w e on both.0) both.1 (omega (arith, few, next_place w e)))

  pub same_list : (es fs : List Event) (bytes : List ℕ) → IsJournalOf lab es bytes → IsJournalOf lab fs bytes → es ≡ fs
  same_list es fs bytes one two =
      sym (read_back (opening_of lab.network) es (reached_first lab is) one.legal (omega (arith, one.few)))
      ∙ ap (λ b. events_in (lines_of b)) (sym one.text ∙ two.text)
      ∙ read_back (opening_of lab.network) fs (reached_first lab is) two.legal (omega (arith, two.few))
