-- The program's error for each error of the crates that it uses.
use Rattle.std.specs.Prelude.{◌≡◌, ℕ, List, codes, Option, None, Some}
use Rattle.mml_board.specs.Denials.{denial_name}
use Rattle.mml_audit.specs.declared.auditing.AuditFault.{AuditFault}
use Rattle.mml_audit.specs.declared.auditing.AuditFault.TheVariants as audit
use Rattle.mml_hall.specs.declared.script.ScriptFault.{ScriptFault}
use Rattle.mml_hall.specs.declared.script.ScriptFault.TheVariants as script
use Rattle.mml_serving.specs.declared.serving.ServeFault.{ServeFault}
use Rattle.mml_serving.specs.declared.serving.ServeFault.TheVariants as serving
use Rattle.mml_files.specs.declared.file_fault.FileFault.{FileFault}
use Rattle.mml_files.specs.declared.file_fault.FileFault.TheVariants as file
use Rattle.mml_program.specs.declared.lab_refusal.AuditRefusal.{AuditRefusal}
use Rattle.mml_program.specs.declared.lab_refusal.AuditRefusal.TheVariants as refusal
use Rattle.mml_program.specs.declared.fault.Fault.{Fault}
use Rattle.mml_program.specs.declared.fault.Fault.TheVariants as fault

-- the program's error for the error of a script; the number of bytes that a failed write had written isn't kept
abbrev pub of_script : ScriptFault → Fault
of_script script.Read = fault.ReadScript
of_script (script.Write n) = fault.Write
of_script (script.BadLine k) = fault.BadLine k
of_script script.Memory = fault.Memory

-- the program's error for the error of a server: a halted journal becomes a journal fault
abbrev pub of_serving : ServeFault → Fault
of_serving serving.Memory = fault.Memory
of_serving serving.Place = fault.Place
of_serving serving.Accept = fault.Accept
of_serving serving.Astray = fault.Astray
of_serving serving.Halted = fault.Journal
of_serving serving.Write = fault.Write

-- the program's error for an error of a journal's file
abbrev pub of_journal_file : FileFault → Fault
of_journal_file file.Refused = fault.Journal
of_journal_file file.Memory = fault.Memory

-- ---- a journal that doesn't pass the audit

-- the refusal names this line, and these words as the reason
abbrev pub IsOfLine : ℕ → List ℕ → Option AuditRefusal → Type 0
IsOfLine k words (Some (refusal.Line line said)) = (line ≡ k) × (said.now ≡ words)
IsOfLine k words _ = ⊥

-- the refusal names this line as illegal, and the denial by its name
abbrev pub IsOfDenial : ℕ → List ℕ → Option AuditRefusal → Type 0
IsOfDenial k name (Some (refusal.Illegal line said)) = (line ≡ k) × (said.now ≡ name)
IsOfDenial k name _ = ⊥

-- the refusal names the bad line of this fault, and what is wrong with it; there is none if memory ran out
abbrev pub IsOfAudit : AuditFault → Option AuditRefusal → Type 0
IsOfAudit (audit.Torn k) told = IsOfLine k (codes "torn") told
IsOfAudit (audit.Shape k) told = IsOfLine k (codes "not an event") told
IsOfAudit (audit.Place k) told = IsOfLine k (codes "wrong place or configuration") told
IsOfAudit (audit.Illegal k denial) told = IsOfDenial k (denial_name denial) told
IsOfAudit (audit.Full k) told = IsOfLine k (codes "over the limit of events") told
IsOfAudit audit.Memory told = told ≡ None

-- the program's error for this fault of an audit: a refusal with its reason, or `Memory`
abbrev pub IsAuditError : AuditFault → Fault → Type 0
IsAuditError why (fault.Audit told) = IsOfAudit why (Some told)
IsAuditError why fault.Memory = IsOfAudit why None
IsAuditError why _ = ⊥

-- ---- the exit status

-- the exit status of an error
abbrev pub status_of : Fault → ℕ
status_of fault.CommandLine = 1
status_of (fault.Lab why) = 2
status_of (fault.BadLine k) = 2
status_of (fault.Audit why) = 3
status_of fault.ReadLab = 4
status_of fault.ReadScript = 4
status_of fault.ReadJournal = 4
status_of fault.TooManyConnections = 2
status_of fault.Listen = 4
status_of fault.Accept = 4
status_of fault.Astray = 4
status_of fault.Place = 5
status_of fault.Journal = 4
status_of fault.Write = 4
status_of fault.Memory = 5
