-- The records of the seats, which are read one after another. The place of an event is its number in the list of
-- events, from 1.
use Rattle.std.specs.Prelude.{◌≡◌, ◌+◌, ◌&&◌, ◌||◌, ℕ, Bool, true, false, List, ◌++◌, length, None}
use Rattle.mml_lab.specs.{declared.who.Who.Who, Labs.LabValue}
use Rattle.mml_board.specs.declared.event.Event.{Event}
use Rattle.mml_tally.specs.{declared.ask.Ask.Ask, declared.record_text.Findings.Findings, Lacking.lacks}
use Rattle.mml_record.specs.declared.{kept_entry.Entry.Entry, verdict.Verdict.Verdict, verdict.Verdict.TheVariants.Passed, verdict.Verdict.TheVariants.Outlived, verdict.Verdict.TheVariants.Refused}
use Rattle.mml_class.specs.{declared.class_record.ClassFault.ClassFault, Classes.counted, Classes.AreRecordsOf, Classes.AreNotOutlived, Classes.IsOutlivedText, Classes.ComeTo, Classes.all_asks}
use Rattle.mml_record.specs.{Halts.outlived, Entries.record_text, Certified.IsRecordOf, Asks.asks_in, Verdicts.ComesTo, Verdicts.IsFirstBad}
use Rattle.std.specs.FinSet as set
use Rattle.mml_class.specs.declared.class_record.ClassFault.TheVariants as fault

-- the findings of a record without entries
abbrev pub no_findings : Findings
no_findings = record { sessions = 0; lines = 0; whole = true; is_cut = false; lacks_teacher = false; lacking = set.empty }

-- c is the findings of two records together
abbrev pub IsTogether : Findings → Findings → Findings → Type 0
IsTogether a b c =
    (c.sessions ≡ counted (a.sessions + b.sessions)) × (c.lines ≡ counted (a.lines + b.lines)) × (c.whole ≡ (a.whole && b.whole))
    × (c.is_cut ≡ (a.is_cut || b.is_cut)) × ((who : Who) → lacks c who ≡ (lacks a who || lacks b who))

-- Either the text of a seat is a record with these findings, in which no refusal `journal` is outlived. The places that
-- it grants are appended to `granted`. If `with_asks` is set, what its lines asked for is appended to `asks`. Or the
-- text is a record in which such a refusal, after q events, is outlived. Or the text has this bad entry, which is its
-- first
abbrev pub IsSeatRead : LabValue → List Event → ℕ → Bool → List ℕ → List ℕ → List ℕ → List Ask → List Ask → Verdict → Type 0
IsSeatRead lab l number with_asks text granted granted' asks asks' (Passed f) =
    (es : List Entry) × (own : List ℕ) × IsRecordOf lab l es own × (text ≡ record_text number es) × ComesTo lab.roster f es
    × (granted' ≡ granted ++ own) × (with_asks ≡ true → asks' ≡ asks ++ asks_in lab.roster es) × (outlived lab (length l) None es ≡ None)
IsSeatRead lab l number with_asks text granted granted' asks asks' (Outlived q) = IsOutlivedText lab l number text q
IsSeatRead lab l number with_asks text granted granted' asks asks' (Refused bad) = IsFirstBad lab l number text bad

-- the text of a seat is a record in which no refusal `journal` is outlived, and the findings grow by those of this
-- record
pub record AddsSeat (lab : LabValue) (l : List Event) (number : ℕ) (with_asks : Bool) (text granted granted' : List ℕ) (asks asks' : List Ask) (old new : Findings) : Type 0 where
  pub found : Findings
  pub read : IsSeatRead lab l number with_asks text granted granted' asks asks' (Passed found)
  pub together : IsTogether old found new

-- why the text of a seat doesn't pass; if the text couldn't be read, there is no condition
abbrev pub IsSeatRefused : LabValue → List Event → ℕ → List ℕ → ClassFault → Type 0
IsSeatRefused lab l number text (fault.Entry seat bad) = (seat ≡ number) × IsFirstBad lab l number text bad
IsSeatRefused lab l number text (fault.Outlived seat q) = (seat ≡ number) × IsOutlivedText lab l number text q
IsSeatRefused lab l number text (fault.Places amiss) = ⊥
IsSeatRefused lab l number text (fault.Unread why) = Unit {0}

-- the texts of the first n seats are records with the findings f together, which grant these places, and in which no
-- refusal `journal` is outlived; `asks` has what their lines asked for
pub record AreReadSoFar (lab : LabValue) (l : List Event) (with_asks : Bool) (texts : ℕ → List ℕ) (n : ℕ) (f : Findings) (places : List ℕ) (asks : List Ask) : Type 0 where
  pub entries : List (List Entry)
  pub seats : length entries ≡ n
  pub records : AreRecordsOf lab l texts 1 entries places
  pub lasting : AreNotOutlived lab (length l) entries
  pub comes : ComeTo lab.roster f entries
  pub asked : with_asks ≡ true → asks ≡ all_asks lab.roster entries
