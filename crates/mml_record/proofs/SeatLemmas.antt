-- For each whole record there are sessions that can have made it. A view is a command that only asks to be shown
-- something: a see, a look or a report. A window is what a seat's sessions have seen of the list of events, and which
-- of these events were granted to them. The known participant is the one whose hello was granted in the session.
use Rattle.std.proofs.Common.{◌≡◌, ◌⊎◌, ℕ, ◌≤◌, Bool, true, false, not, List, [], ◌∷◌, ◌++◌, length, take, drop, refl, sym, ap, ◌∙◌, subst, inl, inr, Option, None, Some, arith}
use Rattle.std.{proofs.Common.append-nil, proofs.Common.append_assoc, proofs.Common.if◌then◌else◌, proofs.Common.◌||◌, proofs.Common.nat_lt, specs.Prelude.IfSome}
use Rattle.std.proofs.lemmas.{List.take-append-drop, List.take-take, List.length-take-le, Bool.false≢true, Bool.Decides.nat_tests, Slice.Eq.bytes_eq-Decides}
use mathlib.Core.List.{IsPrefix}
use Rattle.mml_lab.specs.{declared.who.Who.Who, Labs.LabValue, Labs.IsLab}
use Rattle.mml_lines.{specs.LinesOf.IsWithinLimit, specs.Runs.Chain, proofs.RunsLemmas.empty, proofs.RunsLemmas.longer}
use Rattle.mml_board.specs.{declared.event.Event.Event, Lists.is_legal_in}
use Rattle.mml_codec.specs.{declared.TheConstants.MAX_REQUEST, declared.reply.Reply.Reply, Lines.request_in, Replies.reply_line, Replies.place_in}
use Rattle.mml_window.specs.{Windows.WindowValue, Windows.window}
use Rattle.mml_window.proofs.PrefixLemmas.{prefix_length}
use Rattle.mml_session.specs.{declared.entry.Entry.Entry, declared.session.SessionEnd.SessionEnd, Talks.Talk, Talks.LineTurn, Talks.nobody_known, Ends.AllAnswered, Ends.LastAnswered}
use Rattle.mml_session.specs.Turns.{Standing, standing, places_in, Turn, is_bye}
use Rattle.mml_session.specs.Records.{Kept, stand, judged_at, is_shown, turn_entries, entries_of, left_at, said, entry_text, record_text, EndedRecorded}
use Rattle.mml_session.proofs.{EndingLemmas.longer_entries, RecordLemmas.text_more}
use Rattle.mml_record.specs.{declared.kept_entry.Entry.Entry as KeptEntry, RecordedSeats.Held, RecordedSeats.RecordedSeat, RecordedSeats.IsResumedSeat}
use Rattle.mml_record.specs.Entries.{are_whole, are_ended, record_text as kept_texts}
use Rattle.mml_record.specs.Certified.{Fits, FitsAsked, seen_after, phase_after, stage_at, is_line, is_journal, sees_some, asks_window, may_rise, may_grant, GoesOn, IsRecordOf}
use Rattle.mml_record.proofs.{FitLemmas.first_of, OnceLemmas.ruling_no_bye, RecordLemmas.has_halted, RecordLemmas.open_at, RecordLemmas.turn_halted, RecordLemmas.shown_halted, ShownLemmas.sees_shown}
use Rattle.mml_record.proofs.SaidLemmas.{Turns, turns_all, turns_asked, judged_there, quiet}
use Rattle.mml_codec.specs.declared.reply.Refused.TheVariants as refused
use Rattle.mml_codec.specs.declared.reply.Reply.TheVariants as reply
use Rattle.mml_session.specs.declared.entry.Entry.TheVariants as entry
use Rattle.mml_session.specs.declared.session.SessionEnd.TheVariants as ends
use Rattle.mml_record.specs.declared.kept_entry.Entry.TheVariants as kept
use Rattle.mml_record.specs.declared.stage.Phase.TheVariants as phases

bye_is : (r : Reply) → is_bye r ≡ true → r ≡ reply.Bye
bye_is r is = grind (arith, nat_tests)

-- ---- after a bye nobody is known

module _ (lab : LabValue) (l first : List Event) (known : Option Who) (r : Reply) (known' : Option Who) (is : is_bye r ≡ true) where
  bye_nobody : (line : List ℕ) → Fits lab l first known line r known' → known' ≡ None
  bye_nobody line h = grind (arith, nat_tests, false≢true, ruling_no_bye)

-- ---- the refusal `journal`

-- if a reply may name its event, and names one, the window has counted no refusal `journal`
unhalted_so : (n : ℕ) (o : Option ℕ) → may_grant (nat_lt 0 n) o ≡ true → IfSome o (λ place. n ≡ 0)
unhalted_so n o h = grind (arith, nat_tests)

-- ---- sessions

-- a recorder kept exactly these bytes, and left out none
abbrev keeps_all : List ℕ → Option Kept
keeps_all bytes = Some (record { bytes = bytes; whole = true })

module _ (lab : LabValue) (is : IsLab lab) (l : List Event) (number : ℕ) where
  -- a session leads a seat from one state of its window to another, and makes this text
  abbrev Session : WindowValue → WindowValue → List ℕ → Type 0
  Session old new text = (b : List ℕ) → (end : SessionEnd) × Held lab number end (stand old (keeps_all b)) (stand new (keeps_all (b ++ text)))

  -- sessions lead a seat from one state of its window to another that was granted these places, and make this text
  record Seat (old : WindowValue) (text ps : List ℕ) : Type 0 where
    new : WindowValue
    leads : (b : List ℕ) → (xs : List SessionEnd) × Chain (Held lab number) (stand old (keeps_all b)) xs (stand new (keeps_all (b ++ text)))
    places : new.places ≡ ps
    begins : IsPrefix new.seen l

  regroup : (old : WindowValue) (text more ps qs : List ℕ) → text ≡ more → ps ≡ qs → Seat old text ps → Seat old more qs
  regroup old text more ps qs e f x = subst (λ (y : List ℕ). Seat old y qs) e (subst (λ (y : List ℕ). Seat old text y) f x)

  closes : (old mid : WindowValue) (text more ps : List ℕ) → Session old mid text → Seat mid more ps → Seat old (text ++ more) ps
  closes old mid text more ps one x =
      record {
        new = x.new;
        leads = λ b.
            let rest = x.leads (b ++ text) in
            let chain = subst (λ (y : List ℕ). Chain (Held lab number) (stand mid (keeps_all (b ++ text))) rest.0 (stand x.new (keeps_all y)))
            (append_assoc b text more) rest.1 in
            ((one b).0 ∷ rest.0, (stand mid (keeps_all (b ++ text)), (one b).1, chain));
        places = x.places;
        begins = x.begins;
      }

  longer_text : (es : List Entry) (e : Entry) (more : List ℕ)
      → record_text number (es ++ e ∷ []) ++ more ≡ record_text number es ++ (entry_text number e ++ more)
  longer_text es e more =
      ap (λ (t : List ℕ). t ++ more) (text_more number es (e ∷ []) ∙ ap (λ t. record_text number es ++ t) (append-nil (entry_text number e)))
      ∙ append_assoc (record_text number es) (entry_text number e) more

  -- A session began with the window `old`, and has made these entries. It is over by a bye, or it goes on; `known` is
  -- known, and the window is now `w`
  abbrev Goes : Bool → WindowValue → Option Who → WindowValue → List Entry → Type 0
  Goes true old known w made = (known ≡ None) × Session old w (record_text number (made ++ left_at w))
  Goes false old known w made = (t : Talk lab (nobody_known old)) × (t.end ≡ standing known w) × (entries_of t ≡ made)

  session : (old new : WindowValue) (text : List ℕ) (end : SessionEnd) (who : Option Who)
      → ((b : List ℕ) → EndedRecorded end who number lab old new None None None None (keeps_all b) (keeps_all (b ++ text))) → Session old new text
  session old new text end who ended = λ b. (end, record { who = who; input = None; left = None; wrote = None; wrote' = None; ended = ended b })

  ends_here : (over : Bool) (old : WindowValue) (known : Option Who) (w : WindowValue) (made : List Entry) → Goes over old known w made
      → Session old w (record_text number (made ++ left_at w))
  ends_here true old known w made g = g.1
  ends_here false old known w made g =
      let all : AllAnswered lab old w None None None None =
      record { talk = g.0; stands = ap (λ (st : Standing). st.window) g.1; consumed = tt; appended = tt } in
      session old w (record_text number (made ++ left_at w)) ends.End g.0.end.known
      (λ b. (([], all, (λ k lt. absurd (omega arith), omega arith), tt), refl, ap (λ (es : List Entry). b ++ record_text number (es ++ left_at w)) (sym g.2)))

  -- after a turn, a session has made the entries of the turn too; it is over if the reply is that to a bye, and goes on
  -- otherwise
  one_turn : (old : WindowValue) (known : Option Who) (w : WindowValue) (made : List Entry) → Goes false old known w made → (known' : Option Who)
      (new : WindowValue) (line : List ℕ) (r : Reply) → Turn lab (standing known w) line r (standing known' new) → IsWithinLimit MAX_REQUEST line
      → (over : Bool) → is_bye r ≡ over → (over ≡ true → known' ≡ None) → Goes over old known' new (made ++ turn_entries lab line r new)
  one_turn old known w made g known' new line r turn valid over bye nobody = by over bye nobody
    where
      s : LineTurn lab g.0.end (standing known' new)
      s = record { line = line; reply = r; valid = valid; turn = subst (λ (st : Standing). Turn lab st line r (standing known' new)) (sym g.1) turn }

      by : (b : Bool) → is_bye r ≡ b → (b ≡ true → known' ≡ None) → Goes b old known' new (made ++ turn_entries lab line r new)
      by false goes nobody =
          let longer_by = longer_entries lab (nobody_known old) g.0.end (standing known' new) g.0.lines g.0.replies line r g.0.run s.turn in
          (longer g.0 s goes, refl, longer_by ∙ ap (λ (es : List Entry). es ++ turn_entries lab line r new) g.2)
      by true bye nobody =
          let last : LastAnswered (λ line. line) lab old new None None None None =
          record { talk = g.0; after = standing known' new; last = s; stands = refl; consumed = tt; appended = tt } in
          let same = append_assoc made (turn_entries lab line r new) (left_at new)
          ∙ ap (λ (es : List Entry). es ++ (turn_entries lab line r new ++ left_at new)) (sym g.2) in (
            nobody refl,
            session old new (record_text number ((made ++ turn_entries lab line r new) ++ left_at new)) ends.Bye g.0.end.known
                (λ b. (([], last, bye_is r bye, omega arith), refl, ap (λ (es : List Entry). b ++ record_text number es) same)),
          )

  -- a turn that shows nothing has one entry, and a turn that shows something has none
  said_of : (line out : List ℕ) (r : Reply) (new : WindowValue) (p : ℕ) → is_shown r ≡ false → judged_at (length new.seen) r ≡ p
      → out ≡ reply_line lab.ids lab.roster r → turn_entries lab line r new ≡ entry.Said p line out ∷ []
  said_of line out r new p unshown judged is = grind (arith, nat_tests)

  none_of : (line : List ℕ) (r : Reply) (new : WindowValue) → is_shown r ≡ true → turn_entries lab line r new ≡ []
  none_of line r new shown = ap (λ (b : Bool). if b then [] else said (judged_at (length new.seen) r) line (reply_line lab.ids lab.roster r)) shown

  -- if a reply fits a line, and isn't the refusal `memory`, it fits what the line asks
  fits_asked : (known : Option Who) (line out : List ℕ) (r : Reply) (known' : Option Who) (p : ℕ) → out ≡ reply_line lab.ids lab.roster r
      → not (is_line lab out (reply.Refuse refused.Memory)) ≡ true → Fits lab l (take p l) known line r known'
      → FitsAsked lab l (take p l) known (request_in line) r known'
  fits_asked known line out r known' p at other h = grind (arith, nat_tests, false≢true, bytes_eq-Decides)

  -- why the entry of a line, or of a session's end, may name more events than were seen before it
  said_rises : (known : Option Who) (line out : List ℕ) (p least : ℕ) → (p ≡ least) ⊎ (may_rise lab known phases.Open (kept.Said p line out) ≡ true)
      → ((p ≡ least) ⊎ (sees_some lab.roster known ≡ true))
      ⊎ ((asks_window lab.roster known (request_in line) ≡ true) × (not (is_line lab out (reply.Refuse refused.Memory)) ≡ true))
  said_rises known line out p least h = grind (arith, nat_tests, sees_some lab.roster known, asks_window lab.roster known (request_in line))

  left_rises : (over : Bool) (known : Option Who) (p least : ℕ) → (p ≡ least) ⊎ (may_rise lab known (phase_after over) (kept.Left p) ≡ true)
      → (p ≡ least) ⊎ (sees_some lab.roster known ≡ true)
  left_rises over known p least h = grind (arith, nat_tests)

  module _ (legal : is_legal_in lab l ≡ true) where
    take_in : (least p : ℕ) (w : WindowValue) → least ≤ p → w.seen ≡ take least l → IsPrefix w.seen (take p l)
    take_in least p w le seen =
        (drop least (take p l), ap (λ (m : List Event). m ++ drop least (take p l)) (seen ∙ sym (take-take least p l le)) ∙ take-append-drop least (take p l))

    -- without a further entry, the session has led to the window `at`, which has seen the first p events; its places
    -- are those of w, and it has counted refusals `journal` exactly if w has
    record Arrived (over : Bool) (old : WindowValue) (known : Option Who) (w : WindowValue) (made : List Entry) (p : ℕ) : Type 0 where
      at : WindowValue
      goes : Goes over old known at made
      seen : at.seen ≡ take p l
      halted : has_halted at ≡ has_halted w
      places : at.places ≡ w.places

    -- a session arrives at p events if it has seen just these, or if the known participant can be shown something
    arrives : (over : Bool) (old : WindowValue) (known : Option Who) (w : WindowValue) (made : List Entry) → Goes over old known w made → (least p : ℕ)
        → least ≤ p → p ≤ length l → w.seen ≡ take least l → (p ≡ least) ⊎ (sees_some lab.roster known ≡ true) → Arrived over old known w made p
    arrives over old known w made g least p le few seen (inl same) =
        record { at = w; goes = g; seen = seen ∙ ap (λ (n : ℕ). take n l) (sym same); halted = refl; places = refl }
    arrives true old known w made g least p le few seen (inr sees) = absurd (false≢true (ap (sees_some lab.roster) (sym g.0) ∙ sees))
    arrives false old known w made g least p le few seen (inr sees) =
        let q = quiet lab l legal p few w known (take_in least p w le seen) (sees_shown lab is (take p l) known sees) in
        let goes = one_turn old known w made g known q.4 q.0 q.2 q.5 q.1 false (grind (arith, nat_tests, q.2, q.3)) (λ no. absurd (false≢true no)) in
        let same = ap (λ (es : List Entry). made ++ es) (none_of q.0 q.2 q.4 q.3) ∙ append-nil made in
        let halted = shown_halted lab (standing known w) (standing known q.4) q.0 q.2 q.5 q.1 q.3 in
        record { at = q.4; goes = subst (λ (es : List Entry). Goes false old known q.4 es) same goes; seen = q.6; halted = halted; places = q.7 }

    -- if these entries go on within a session, or after its bye if `over` is true, sessions can have made them
    abbrev Walks : Bool → List KeptEntry → Type 0
    Walks over es =
        (old : WindowValue) (known : Option Who) (w : WindowValue) (made : List Entry) → Goes over old known w made → (least : ℕ) (ps : List ℕ)
        → GoesOn lab l known (stage_at (phase_after over) (has_halted w)) least es ps → w.seen ≡ take least l → least ≤ length l
        → are_whole es ≡ true → are_ended true es ≡ true → Seat old (record_text number made ++ kept_texts number es) (w.places ++ ps)

    -- if these entries go on between sessions, sessions can have made them
    abbrev Between : List KeptEntry → Type 0
    Between es =
        (w : WindowValue) (least : ℕ) (ps : List ℕ) → GoesOn lab l None (open_at w) least es ps → w.seen ≡ take least l → least ≤ length l
        → are_whole es ≡ true → are_ended false es ≡ true → Seat w (kept_texts number es) (w.places ++ ps)

    between : (es : List KeptEntry) → Walks false es → Between es
    between [] walks w least ps none seen few whole ended =
        record {
          new = w;
          leads = λ b. ([], ap (λ (y : List ℕ). stand w (keeps_all y)) (append-nil b));
          places = sym (append-nil w.places) ∙ ap (λ y. w.places ++ y) (sym none);
          begins = subst (λ (m : List Event). IsPrefix m l) (sym seen) (drop least l, take-append-drop least l);
        }
    between (e ∷ es) walks w least ps h seen few whole ended = walks w None w [] (empty, refl, refl) least ps h seen few whole (grind (arith, nat_tests, e))

    left_first : (over : Bool) (p : ℕ) (es : List KeptEntry) → Walks false es → Walks over (kept.Left p ∷ es)
    left_first over p es walks old known w made g least ps h seen few whole ended =
        let a = arrives over old known w made g least p h.0.0 h.1 seen (left_rises over known p least h.0.1) in
        let count : length a.at.seen ≡ p = omega (arith, ap length a.seen, length-take-le p l h.1) in
        let on = subst (λ (b : Bool). GoesOn lab l None (stage_at phases.Open b) p es ps) (sym a.halted) h.2 in
        regroup old _ _ _ _ (longer_text made (entry.Left (length a.at.seen)) (kept_texts number es)
        ∙ ap (λ (n : ℕ). record_text number made ++ (entry_text number (entry.Left n) ++ kept_texts number es)) count) (ap (λ (y : List ℕ). y ++ ps) a.places)
        (closes old a.at _ _ _ (ends_here over old known a.at made a.goes) (between es walks a.at p ps on a.seen h.1 whole ended))

    said_first : (p : ℕ) (line out : List ℕ) (es : List KeptEntry) → ((over : Bool) → Walks over es) → Walks false (kept.Said p line out ∷ es)
    said_first p line out es walks old known w made g least ps h seen few whole ended =
        elim (said_rises known line out p least h.0.1) [
          | inl rise ↦ let a = arrives false old known w made g least p h.0.0 h.1 seen rise in
              from a.at a.goes a.halted a.places (turns_all lab l legal p h.1 a.at known h.4 line r a.seen h.8.1 (unhalted a.at a.halted))
          | inr asks ↦ from w g refl refl (turns_asked lab l legal p h.1 w known h.4 line r (take_in least p w h.0.0 seen) asks.0
              (fits_asked known line out r h.4 p h.7 asks.1 h.8.1) (unhalted w refl))
        ]
      where
        r : Reply
        r = h.3

        unhalted : (v : WindowValue) → has_halted v ≡ has_halted w → IfSome (place_in r) (λ place. v.halts ≡ 0)
        unhalted v same = unhalted_so v.halts (place_in r) (subst (λ (b : Bool). may_grant b (place_in r) ≡ true) (sym same) h.8.2)

        -- sessions can have made these entries, if a turn of the window v has the line and its reply
        from : (v : WindowValue) → Goes false old known v made → has_halted v ≡ has_halted w → v.places ≡ w.places → Turns lab l legal p h.1 v known line r h.4
            → Seat old (record_text number made ++ kept_texts number (kept.Said p line out ∷ es)) (w.places ++ ps)
        from v goes same places t =
            let on = turn_halted lab (standing known v) (standing h.4 t.0) line r t.1 h.2 in
            let halted : (has_halted w || is_journal lab out) ≡ has_halted t.0 = (λ k. sym same k || is_journal lab (h.7 k)) ∙ sym on in
            let next = one_turn old known v made goes h.4 t.0 line r t.1 h.2 (is_bye r) refl (λ bye. bye_nobody lab l (take p l) known r h.4 bye line h.8.1) in
            let more = subst (λ (b : Bool). GoesOn lab l h.4 (stage_at (phase_after (is_bye r)) b) (seen_after p (place_in r)) es h.5) halted h.10 in
            let rest = walks (is_bye r) old h.4 t.0 (made ++ turn_entries lab line r t.0) next (seen_after p (place_in r)) h.5 more t.2.0 t.2.2 whole ended in
            regroup old _ _ _ _ (ap (λ (fs : List Entry). record_text number (made ++ fs) ++ kept_texts number es)
            (said_of line out r t.0 p h.8.0 (judged_there lab l legal p h.1 v t.0 r t.2) h.7) ∙ longer_text made (entry.Said p line out) (kept_texts number es))
            (ap (λ (y : List ℕ). y ++ h.5) (t.2.1 ∙ ap (λ (y : List ℕ). y ++ places_in r) places) ∙ append_assoc w.places (places_in r) h.5
            ∙ ap (λ (y : List ℕ). w.places ++ y) (sym h.9)) rest

    walks : (over : Bool) (es : List KeptEntry) → Walks over es
    walks over (kept.Left p ∷ es) = left_first over p es (walks false es)
    walks false (kept.Said p line out ∷ es) = said_first p line out es (λ over. walks over es)
    walks over es = grind (arith, nat_tests, false≢true)

-- ---- whole records

-- if nothing is left out of a record, its entries go on from a state in which some number n of events was seen
begins_after : (lab : LabValue) (l : List Event) (es : List KeptEntry) (ps : List ℕ) → IsRecordOf lab l es ps → are_whole es ≡ true
    → (n : ℕ) × (n ≤ length l) × GoesOn lab l None (stage_at phases.Open false) n es ps
begins_after lab l [] ps h whole = (0, omega arith, h)
begins_after lab l (kept.Said p line out ∷ es) ps h whole = (p, h.1, ((omega arith, inl refl), h.1, h.2, h.3, h.4, h.5, refl, h.7, h.8, h.9, h.10))
begins_after lab l (kept.Left p ∷ es) ps h whole = (p, h.1, ((omega arith, inl refl), h.1, h.2))
begins_after lab l _ ps h whole = grind (arith, nat_tests, false≢true)

-- if entries go on after the events `begun`, nothing is left out, and each session has ended, sessions can have made
-- them
pub goes_on_so : (lab : LabValue) (l begun : List Event) (number : ℕ) (es : List KeptEntry) (ps : List ℕ) → IsLab lab → is_legal_in lab l ≡ true
    → IsPrefix begun l → GoesOn lab l None (stage_at phases.Open false) (length begun) es ps → are_whole es ≡ true → are_ended false es ≡ true
    → (p : RecordedSeat) × (w : WindowValue) × IsResumedSeat lab begun p w × IsPrefix w.seen l × (w.places ≡ ps) × (p.number ≡ number)
    × (p.kept.whole ≡ true) × (p.kept.bytes ≡ kept_texts number es)
goes_on_so lab l begun number es ps is legal begins h whole ended =
    let s = between lab is l number legal es (walks lab is l number legal false es) (window begun []) (length begun) ps h
    (sym (first_of begun l (length begun) refl begins)) (prefix_length begun l begins) whole ended in
    let seat : RecordedSeat = record { number = number; ends = (s.leads []).0; kept = record { bytes = kept_texts number es; whole = true } } in
    (seat, s.new, (s.leads []).1, s.begins, s.places, refl, refl, refl)

-- if a record is whole, and each of its sessions has ended, sessions can have made it
pub can_have_said : (lab : LabValue) (l : List Event) (number : ℕ) (es : List KeptEntry) (ps : List ℕ) → IsLab lab → is_legal_in lab l ≡ true
    → IsRecordOf lab l es ps → are_whole es ≡ true → are_ended false es ≡ true
    → (begun : List Event) × IsPrefix begun l × (p : RecordedSeat) × (w : WindowValue) × IsResumedSeat lab begun p w × IsPrefix w.seen l × (w.places ≡ ps)
    × (p.number ≡ number) × (p.kept.whole ≡ true) × (p.kept.bytes ≡ kept_texts number es)
can_have_said lab l number es ps is legal h whole ended =
    let b = begins_after lab l es ps h whole in
    let pre : IsPrefix (take b.0 l) l = (drop b.0 l, take-append-drop b.0 l) in
    let on = subst (λ (n : ℕ). GoesOn lab l None (stage_at phases.Open false) n es ps) (sym (length-take-le b.0 l b.1)) b.2 in
    let g = goes_on_so lab l (take b.0 l) number es ps is legal pre on whole ended in (take b.0 l, pre, g.0, g.1, g.2, g.3, g.4, g.5, g.6, g.7)

-- ---- one entry

-- an accepted entry of a line describes a turn
pub is_a_turn : (lab : LabValue) (l : List Event) (p : ℕ) (known known' : Option Who) (line : List ℕ) (r : Reply) (w : WindowValue)
    → is_legal_in lab l ≡ true → p ≤ length l → w.seen ≡ take p l → Fits lab l (take p l) known line r known' → IfSome (place_in r) (λ place. w.halts ≡ 0)
    → (new : WindowValue) × Turn lab (standing known w) line r (standing known' new) × (new.seen ≡ take (seen_after p (place_in r)) l)
    × (new.places ≡ w.places ++ places_in r) × (judged_at (length new.seen) r ≡ p)
is_a_turn lab l p known known' line r w legal few seen fits unhalted =
    grind (arith, nat_tests, turns_all lab l legal p few w known known' line r seen fits unhalted, judged_there)
