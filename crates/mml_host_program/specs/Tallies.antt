-- The tally of a journal, as `tally` prints it.
use Rattle.std.specs.Prelude.{◌≡◌, ◌++◌, List, ℕ, Err, MatchBool}
use Rattle.mml_lab.specs.Labs.{LabValue}
use Rattle.mml_board.specs.{declared.event.Event.Event, Lists.world_in}
use Rattle.mml_audit.specs.{Audit.audited, Audit.is_audit_memory, AuditMeaning.IsJournalOf}
use Rattle.mml_tally.specs.{Texts.tally_text, Rounds.rounds_line}
use Rattle.mml_host_program.specs.declared.judging.class_error.ClassError.{ClassError}
use Rattle.mml_host_program.specs.declared.judging.class_error.ClassError.TheVariants as error

-- the bytes are the journal of a legal list of events, and the text is the tally of this list, followed by the line
-- about rounds
pub record IsTally (lab : LabValue) (bytes text : List ℕ) : Type 0 where
  pub events : List Event
  pub journal : IsJournalOf lab events bytes
  pub told : text ≡ tally_text lab (world_in lab events) events ++ rounds_line lab events

-- why there is no tally to write: the journal doesn't pass the audit. If memory ran out, nothing is stated
abbrev pub HasNoTally : LabValue → List ℕ → ClassError → Type 0
HasNoTally lab bytes (error.Audit why) = MatchBool (is_audit_memory why) (Unit {0}) (audited lab bytes ≡ Err why)
HasNoTally lab bytes (error.Record why) = ⊥
HasNoTally lab bytes error.Memory = Unit {0}
HasNoTally lab bytes error.Write = ⊥
