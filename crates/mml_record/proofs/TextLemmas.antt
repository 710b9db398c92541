-- The records of seats and houses. The place of an event is its number in the list of events, from 1. A window is what a
-- session has seen of the list.
use Rattle.std.proofs.Common.{◌≡◌, ◌≤◌, ◌*◌, ◌-◌, ℕ, true, false, List, [], ◌∷◌, ◌++◌, length, refl, sym, subst, None, Some, arith, append-nil, All}
use Rattle.std.{specs.List.AllZip, proofs.lemmas.List.Elements.All-head, proofs.lemmas.List.Elements.All-tail, proofs.lemmas.Bool.Decides.nat_tests}
use mathlib.Core.List.{IsPrefix}
use Rattle.mml_lab.specs.Labs.{LabValue}
use Rattle.mml_lines.specs.Runs.{Chain}
use Rattle.mml_board.specs.declared.event.Event.{Event}
use Rattle.mml_window.specs.Windows.{WindowValue, window}
use Rattle.mml_session.specs.{declared.entry.Entry.Entry, declared.session.SessionEnd.SessionEnd, Talks.nobody_known, Records.session_entries, Records.Stand, Records.stand, Records.AddsTo}
use Rattle.mml_session.specs.{Records.Records}
use Rattle.mml_session.proofs.RecordLemmas.{records_nil, records_trans}
use Rattle.mml_record.specs.{Certified.IsRecordOf, Certified.first_stage, Certified.stage_at, Entries.all_kept, Halts.outlived}
use Rattle.mml_record.specs.RecordedSeats.{Held, RecordedSeat, IsResumedSeat, IsRecordedSeat, IsRecordText, IsFinalText, fresh}
use Rattle.mml_record.proofs.{RecordLemmas.GoesOn, RecordLemmas.Led, RecordLemmas.same_text, RecordLemmas.earlier, RecordLemmas.led_none, RecordLemmas.led_append, RecordLemmas.session_led}
use Rattle.mml_record.proofs.{CountedLemmas.counted_last}
use Rattle.mml_record.specs.declared.stage.Phase.TheVariants as phases

-- the sessions of a seat make entries that lead from the seat's state before them to its state after them
seat_led : (lab : LabValue) (l : List Event) (number : ℕ) (ends : List SessionEnd) (old new : Stand) → Chain (Held lab number) old ends new
    → (es : List Entry) × Led lab l (nobody_known old.window) phases.Open (nobody_known new.window) phases.Open es × Records number old.kept new.kept es
seat_led lab l number [] old new held = rw held ([], led_none (nobody_known old.window) phases.Open, records_nil number old.kept)
seat_led lab l number (end ∷ ends) old new held =
    let mid = held.0 in
    let one = held.1 in
    let rest = seat_led lab l number ends mid new held.2 in
    let es = session_entries end lab old.window mid.window one.input one.left one.wrote one.wrote' one.ended.0 in (
      es ++ rest.0,
      led_append (session_led end old.window mid.window one.input one.left one.wrote one.wrote' one.ended.0) rest.1,
      records_trans number old.kept mid.kept new.kept es rest.0 one.ended.2 rest.2,
    )

-- what was recorded of a seat is a record of it, also in a class that was resumed after the events `begun`. No event
-- follows a refusal `journal` in it, if the seat's window says that each of its refusals came after all events
recorded : (lab : LabValue) (l begun : List Event) (p : RecordedSeat) (w : WindowValue) → IsResumedSeat lab begun p w → IsPrefix w.seen l
    → (t : IsRecordText lab l p.number p.kept w.places)
    × (length l ≤ lab.events → w.spare ≡ w.halts * (lab.events - length l) → outlived lab (length l) None t.entries ≡ None)
recorded lab l begun p w held begins =
    let so = seat_led lab l p.number p.ends (stand (window begun []) (Some fresh)) (stand w (Some p.kept)) held in
    let on : GoesOn lab l None (stage_at phases.Open false) (length begun) so.0 so.1.places = simp append-nil at (so.1.on begins [] [] (refl, refl)) in
    let first = earlier lab l None phases.Fresh false 0 (length begun) so.0 so.1.places (omega arith) (λ e. grind (arith, nat_tests)) (λ known. refl) on in (
      record {
        entries = all_kept so.0;
        record_of = subst (λ (ps : List ℕ). IsRecordOf lab l (all_kept so.0) ps) (sym so.1.granted) first.0;
        uncut = first.1;
        text = subst (λ (xs : List ℕ). AddsTo true p.kept.whole [] p.kept.bytes xs) (sym (same_text p.number so.0)) so.2;
      },
      λ few last. counted_last lab l (window begun []) w so.0 None first_stage 0 so.1.places few refl refl so.1.counted first.1 first.0 last,
    )

-- what was recorded of a seat is a record of it, also in a class that was resumed after the events `begun`
pub is_record_from : (lab : LabValue) (l begun : List Event) (p : RecordedSeat) (w : WindowValue) → IsResumedSeat lab begun p w → IsPrefix w.seen l
    → IsRecordText lab l p.number p.kept w.places
is_record_from lab l begun p w held begins = (recorded lab l begun p w held begins).0

pub is_record : (lab : LabValue) (l : List Event) (p : RecordedSeat) (w : WindowValue) → IsRecordedSeat lab p w → IsPrefix w.seen l
    → IsRecordText lab l p.number p.kept w.places
is_record lab l p w held begins = is_record_from lab l [] p w held begins

-- if R holds of a seat and its window whenever P holds of both and Q of the window, R holds of each seat and its window
each_seat : (P R : RecordedSeat → WindowValue → Type 0) (Q : WindowValue → Type 0) → ((p : RecordedSeat) (w : WindowValue) → P p w → Q w → R p w)
    → (ps : List RecordedSeat) (ws : List WindowValue) → All Q ws → AllZip P ps ws → AllZip R ps ws
each_seat P R Q f [] [] seen held = tt
each_seat P R Q f (p ∷ ps) (w ∷ ws) seen held = (f p w held.0 (All-head Q w ws seen), each_seat P R Q f ps ws (All-tail Q w ws seen) held.1)
each_seat P R Q f _ _ seen held = absurd held

pub are_records : (lab : LabValue) (l : List Event) (ps : List RecordedSeat) (ws : List WindowValue)
    → All (λ w. IsPrefix w.seen l) ws → AllZip (IsRecordedSeat lab) ps ws → AllZip (λ p w. IsRecordText lab l p.number p.kept w.places) ps ws
are_records lab l = each_seat (IsRecordedSeat lab) (λ p w. IsRecordText lab l p.number p.kept w.places) (λ w. IsPrefix w.seen l) (is_record lab l)

-- What was recorded of each seat is a record of it. No event follows a refusal `journal` in it, if each window says
-- that each of its refusals came after all events
pub are_final : (lab : LabValue) (l begun : List Event) (ps : List RecordedSeat) (ws : List WindowValue) → length l ≤ lab.events
    → All (λ w. IsPrefix w.seen l) ws → All (λ w. w.spare ≡ w.halts * (lab.events - length l)) ws → AllZip (IsResumedSeat lab begun) ps ws
    → AllZip (λ p w. IsFinalText lab l p.number p.kept w.places) ps ws
are_final lab l begun ps ws few seen last =
    each_seat (IsResumedSeat lab begun) (λ p w. IsFinalText lab l p.number p.kept w.places)
    (λ w. IsPrefix w.seen l × (w.spare ≡ w.halts * (lab.events - length l)))
    (λ p w held q. let t = recorded lab l begun p w held q.0 in (t.0, t.1 few q.1)) ps ws (λ i d k. (seen i d k, last i d k))
