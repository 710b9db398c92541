-- What the program prints about a class, from its journal and its record.
use Rattle.std.specs.Prelude.{◌≡◌, ◌<◌, ◌++◌, ℕ, Bool, true, false, List, length, take, Option, Err, MatchBool}
use Rattle.std.specs.Io.KnownBytes.{Appends}
use Rattle.mml_lab.specs.Labs.{LabValue}
use Rattle.mml_board.specs.{declared.event.Event.Event, Lists.world_in}
use Rattle.mml_audit.specs.{Audit.audited, Audit.is_audit_memory, AuditMeaning.IsJournalOf}
use Rattle.mml_tally.specs.{RecordTexts.recorded_text, Rounds.rounds_line}
use Rattle.mml_class.specs.{declared.class_record.ClassRecord.ClassRecord, declared.class_record.ClassFault.ClassFault, Classes.IsClassRecord, Classes.IsClassRefused}
use Rattle.mml_host_program.specs.{declared.judging.class_error.ClassError.ClassError, Verifying.verified_text}
use Rattle.mml_host_program.specs.declared.judging.class_error.ClassError.TheVariants as error

-- What is printed about a record that fits the events of its journal. `tally` prints the tally of these events, of the
-- record's findings and of what its lines asked for, and then the line about rounds. `verify` prints a summary
abbrev pub judged_text : Bool → LabValue → List Event → ClassRecord → List ℕ
judged_text true lab events class = recorded_text lab (world_in lab events) events class.findings class.asks.items ++ rounds_line lab events
judged_text false lab events class = verified_text lab class.findings (length events) class.begun

-- The bytes are the journal of a legal list of events. The texts of the seats are the record of a class, and fit this
-- list. The text is what `tally` prints about both, or `verify`
pub record IsJudged (is_tallied : Bool) (lab : LabValue) (bytes start : List ℕ) (texts : ℕ → List ℕ) (text : List ℕ) : Type 0 where
  pub events : List Event
  pub class : ClassRecord
  pub journal : IsJournalOf lab events bytes
  pub record_of : IsClassRecord lab events is_tallied start texts class
  pub told : text ≡ judged_text is_tallied lab events class

-- the bytes are the journal of a legal list of events, and the texts of the seats aren't a record that fits this list
pub record IsRefused (lab : LabValue) (bytes start : List ℕ) (texts : ℕ → List ℕ) (why : ClassFault) : Type 0 where
  pub events : List Event
  pub journal : IsJournalOf lab events bytes
  pub refused : IsClassRefused lab events start texts why

-- Why there is nothing to write: the journal doesn't pass the audit, or the texts aren't a record that fits it. If
-- memory ran out, nothing is stated
abbrev pub IsUntold : LabValue → List ℕ → List ℕ → (ℕ → List ℕ) → ClassError → Type 0
IsUntold lab bytes start texts (error.Audit why) = MatchBool (is_audit_memory why) (Unit {0}) (audited lab bytes ≡ Err why)
IsUntold lab bytes start texts (error.Record why) = IsRefused lab bytes start texts why
IsUntold lab bytes start texts error.Memory = Unit {0}
IsUntold lab bytes start texts error.Write = ⊥

-- a text for which P is true was written
abbrev pub IsWritten : (List ℕ → Type 0) → Option (List ℕ) → Option (List ℕ) → Type 0
IsWritten P wrote wrote' = (text : List ℕ) × P text × Appends wrote wrote' text

-- only a beginning of a text for which P is true was written
abbrev pub IsPartWritten : (List ℕ → Type 0) → Option (List ℕ) → Option (List ℕ) → Type 0
IsPartWritten P wrote wrote' = (text : List ℕ) × (n : ℕ) × P text × (n < length text) × Appends wrote wrote' (take n text)

-- Why a text for which P is true wasn't written whole. Either a write failed after a beginning of the text. Or nothing
-- was written, and U is true for the reason, unless the reason is that memory ran out
abbrev pub IsUnwritten : (ClassError → Type 0) → (List ℕ → Type 0) → Option (List ℕ) → Option (List ℕ) → ClassError → Type 0
IsUnwritten U P wrote wrote' error.Write = IsPartWritten P wrote wrote'
IsUnwritten U P wrote wrote' (error.Audit why) = (wrote' ≡ wrote) × U (error.Audit why)
IsUnwritten U P wrote wrote' (error.Record why) = (wrote' ≡ wrote) × U (error.Record why)
IsUnwritten U P wrote wrote' error.Memory = wrote' ≡ wrote
