-- The record of a class: a text for each seat, which is compared with one list of events, and the number of events
-- before the record. The place of an event is its number in the list of events, from 1. A seat serves one connection
-- after another.
use Rattle.std.specs.Prelude.{◌≡◌, ◌≤◌, ◌+◌, ◌-◌, ◌^◌, min, ℕ, suc, Bool, true, List, [], ◌∷◌, ◌++◌, length, Option, None, Some}
use Rattle.std.specs.List.{list_all, list_any, sum_by, flat_map}
use Rattle.mml_lab.specs.{declared.who.Who.Who, Labs.LabValue, Rosters.RosterValue}
use Rattle.mml_board.specs.declared.event.Event.{Event}
use Rattle.mml_window.specs.Tallies.{IsEachOnceFrom}
use Rattle.mml_tally.specs.{declared.ask.Ask.Ask, declared.record_text.Findings.Findings, Lacking.lacks}
use Rattle.mml_record.specs.{declared.kept_entry.Entry.Entry, declared.verdict.BadEntry.BadEntry, Losses.are_paused_for, Losses.are_cut, Halts.outlived, Certified.IsRecordOf, Asks.asks_in, Verdicts.IsFirstBad}
use Rattle.mml_class.specs.declared.{class_record.ClassRecord.ClassRecord, class_record.ClassFault.ClassFault, granting.Misgranted.Misgranted}
use Rattle.mml_record.specs.Entries.{record_text, sessions_in, lines_in, are_whole}
use Rattle.mml_class.specs.{Begun.begun_in, Granting.AreGranted, Granting.IsFound}
use Rattle.mml_class.specs.declared.class_record.ClassFault.TheVariants as fault

-- ---- the seats' texts

-- the bytes `start` are the text with the number of events before the record, and `texts` has the text of each seat
abbrev pub Tell : Option (List ℕ) → (ℕ → Option (List ℕ)) → List ℕ → (ℕ → List ℕ) → Type 0
Tell begun text start texts = (begun ≡ Some start) × ((n : ℕ) → text n ≡ Some (texts n))

-- the texts of the seats from number `first` on are these records, one for each seat; `places` has the places of the
-- events that they grant, in the order of seats
abbrev pub AreRecordsOf : LabValue → List Event → (ℕ → List ℕ) → ℕ → List (List Entry) → List ℕ → Type 0
AreRecordsOf lab l texts first [] places = places ≡ []
AreRecordsOf lab l texts first (es ∷ ess) places =
    (own : List ℕ) × (more : List ℕ) × (places ≡ own ++ more) × IsRecordOf lab l es own × (texts first ≡ record_text first es)
    × AreRecordsOf lab l texts (suc first) ess more

-- in none of these records is a refusal `journal` outlived, that is, followed by more events of the same life of the
-- server; n is the number of all events
abbrev pub AreNotOutlived : LabValue → ℕ → List (List Entry) → Type 0
AreNotOutlived lab n [] = Unit {0}
AreNotOutlived lab n (es ∷ ess) = (outlived lab n None es ≡ None) × AreNotOutlived lab n ess

-- ---- the summary of several records

-- a count as a number of 64 bits; a greater count becomes the greatest such number
abbrev pub counted : ℕ → ℕ
counted n = min n (2 ^ 64 - 1)

-- the findings of several records together: how many sessions ended, how many lines were recorded, whether all records
-- are whole, whether one says that anything may be missing, and the participants for whom recording paused in one
abbrev pub ComeTo : RosterValue → Findings → List (List Entry) → Type 0
ComeTo roster f ess =
    (f.sessions ≡ counted (sum_by sessions_in ess)) × (f.lines ≡ counted (sum_by lines_in ess)) × (f.whole ≡ list_all are_whole ess)
    × (f.is_cut ≡ list_any are_cut ess) × ((who : Who) → lacks f who ≡ list_any (λ es. are_paused_for roster None es who) ess)

-- what the lines of several seats asked for, in the order of seats
abbrev pub all_asks : RosterValue → List (List Entry) → List Ask
all_asks roster ess = flat_map (asks_in roster) ess

-- ---- a class

-- the texts are the record of a class, with the result c: each text is a record of its seat that fits the list of
-- events, and no refusal `journal` in it is outlived. Each place that they grant is that of an event after the first
-- `begun` ones, and is granted once. If all records are whole, each such event is granted. If `with_asks` is set, the
-- result has what the lines asked for
pub record IsClassRecord (lab : LabValue) (l : List Event) (with_asks : Bool) (start : List ℕ) (texts : ℕ → List ℕ) (c : ClassRecord) : Type 0 where
  pub begun : begun_in start ≡ Some c.begun
  pub entries : List (List Entry)
  pub places : List ℕ
  pub seats : length entries ≡ lab.sessions
  pub records : AreRecordsOf lab l texts 1 entries places
  pub lasting : AreNotOutlived lab (length l) entries
  pub comes : ComeTo lab.roster c.findings entries
  pub granted : AreGranted c.begun (length l) places
  pub once : list_all are_whole entries ≡ true → IsEachOnceFrom c.begun (length l) places
  pub asked : with_asks ≡ true → c.asks.items ≡ all_asks lab.roster entries

-- the texts of all seats before this one are records, in which no refusal `journal` is outlived
pub record AreRecordsBefore (lab : LabValue) (l : List Event) (texts : ℕ → List ℕ) (seat : ℕ) : Type 0 where
  pub entries : List (List Entry)
  pub places : List ℕ
  pub before : seat ≡ suc (length entries)
  pub few : seat ≤ lab.sessions
  pub records : AreRecordsOf lab l texts 1 entries places
  pub lasting : AreNotOutlived lab (length l) entries

-- this is the first seat whose text isn't such a record: its text is a record up to `entry`, which can't come next
abbrev pub IsBadSeat : LabValue → List Event → (ℕ → List ℕ) → ℕ → BadEntry → Type 0
IsBadSeat lab l texts seat entry = AreRecordsBefore lab l texts seat × IsFirstBad lab l seat (texts seat) entry

-- the text of a seat is a record in which a refusal `journal` is outlived; the first such refusal came after q events
abbrev pub IsOutlivedText : LabValue → List Event → ℕ → List ℕ → ℕ → Type 0
IsOutlivedText lab l number text q =
    (es : List Entry) × (own : List ℕ) × IsRecordOf lab l es own × (text ≡ record_text number es) × (outlived lab (length l) None es ≡ Some q)

-- this is the first seat in whose text a refusal `journal` is outlived, and the first of these came after q events
abbrev pub IsOutlivedSeat : LabValue → List Event → (ℕ → List ℕ) → ℕ → ℕ → Type 0
IsOutlivedSeat lab l texts seat q = AreRecordsBefore lab l texts seat × IsOutlivedText lab l seat (texts seat) q

-- the texts of all seats are records, in which no refusal `journal` is outlived, and `amiss` is the first fault in the
-- places that they grant
pub record AreMisgranted (lab : LabValue) (l : List Event) (start : List ℕ) (texts : ℕ → List ℕ) (amiss : Misgranted) : Type 0 where
  pub begun : ℕ
  pub entries : List (List Entry)
  pub places : List ℕ
  pub starts : begun_in start ≡ Some begun
  pub seats : length entries ≡ lab.sessions
  pub records : AreRecordsOf lab l texts 1 entries places
  pub lasting : AreNotOutlived lab (length l) entries
  pub found : IsFound begun (length l) (list_all are_whole entries) places (Some amiss)

-- why the texts are no record of a class; if a text couldn't be read, there is no condition
abbrev pub IsClassRefused : LabValue → List Event → List ℕ → (ℕ → List ℕ) → ClassFault → Type 0
IsClassRefused lab l start texts (fault.Entry seat bad) = IsBadSeat lab l texts seat bad
IsClassRefused lab l start texts (fault.Outlived seat q) = IsOutlivedSeat lab l texts seat q
IsClassRefused lab l start texts (fault.Places amiss) = AreMisgranted lab l start texts amiss
IsClassRefused lab l start texts (fault.Unread why) = Unit {0}
