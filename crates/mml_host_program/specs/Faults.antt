-- The program's error for each error of the crates that it uses, and for each reason why the check of a class fails.
use Rattle.std.specs.Prelude.{◌≡◌, ℕ}
use Rattle.mml_audit.specs.declared.auditing.AuditFault.{AuditFault}
use Rattle.mml_files.specs.declared.file_fault.FileFault.{FileFault}
use Rattle.mml_files.specs.declared.file_fault.FileFault.TheVariants as file
use Rattle.mml_hosting.specs.declared.hosted.HostFault.{HostFault}
use Rattle.mml_hosting.specs.declared.hosted.HostFault.TheVariants as hosting
use Rattle.mml_resuming.specs.declared.resuming.ResumeFault.{ResumeFault}
use Rattle.mml_resuming.specs.declared.resuming.ResumeFault.TheVariants as resuming
use Rattle.mml_class.specs.declared.class_record.ClassFault.{ClassFault}
use Rattle.mml_class.specs.declared.class_record.ClassFault.TheVariants as class
use Rattle.mml_class.specs.declared.seats.SeatFault.TheVariants as seat
use Rattle.mml_program.specs.Faults.{IsAuditError, status_of}
use Rattle.mml_program.specs.declared.fault.Fault.TheVariants as program
use Rattle.mml_host_program.specs.declared.{judging.class_error.ClassError.ClassError, fault.Fault.Fault, judging.record_refusal.RecordRefusal.RecordRefusal}
use Rattle.mml_host_program.specs.declared.judging.class_error.ClassError.TheVariants as error
use Rattle.mml_host_program.specs.declared.fault.Fault.TheVariants as fault
use Rattle.mml_host_program.specs.Refusals.{IsOfEntry, IsOfOutlived, IsOfPlace}

-- ---- a class that is served

-- the host's error for an error of serving; a halted journal has the same error as a journal's file that can't be made
abbrev pub of_hosting : HostFault → Fault
of_hosting hosting.Memory = fault.Common program.Memory
of_hosting hosting.Place = fault.Place
of_hosting hosting.Undismissed = fault.Accept
of_hosting hosting.Astray = fault.Astray
of_hosting hosting.Halted = fault.Common program.Journal
of_hosting hosting.Write = fault.Common program.Write

-- the host's error for an error of a record's folder, or of a file in it
abbrev pub of_record : FileFault → Fault
of_record file.Refused = fault.Unrecorded
of_record file.Memory = fault.Common program.Memory

-- the host's error for the reason why a class wasn't resumed; a journal that can't be cut is a journal fault, and the
-- error of a refused journal isn't stated here
abbrev pub IsToldAs : ResumeFault → Fault → Type 0
IsToldAs (resuming.Refused why) told = Unit {0}
IsToldAs resuming.Memory told = told ≡ fault.Common program.Memory
IsToldAs resuming.Store told = told ≡ fault.Common program.Journal
IsToldAs (resuming.Host why) told = told ≡ of_hosting why

-- ---- a class that is checked

-- the error is that the record is refused, and P is true for the refusal
abbrev pub IsRefusal : (RecordRefusal → Type 0) → Fault → Type 0
IsRefusal P (fault.Record why) = P why
IsRefusal P _ = ⊥

-- the error for texts that are no record of a class, or can't be read
abbrev pub IsOfRecord : ClassFault → Fault → Type 0
IsOfRecord (class.Entry seat bad) f = IsRefusal (IsOfEntry seat bad) f
IsOfRecord (class.Outlived seat seen) f = IsRefusal (IsOfOutlived seat seen) f
IsOfRecord (class.Places amiss) f = IsRefusal (IsOfPlace amiss) f
IsOfRecord (class.Unread seat.Read) f = f ≡ fault.ReadRecord
IsOfRecord (class.Unread seat.Memory) f = f ≡ fault.Common program.Memory

-- the error for a journal that doesn't pass the audit, because of this fault or because memory ran out
abbrev pub IsOfJournal : AuditFault → Fault → Type 0
IsOfJournal why (fault.Common told) = IsAuditError why told
IsOfJournal why _ = ⊥

-- the error for the reason why the result of checking a class wasn't written
abbrev pub IsOfClass : ClassError → Fault → Type 0
IsOfClass (error.Audit why) f = IsOfJournal why f
IsOfClass (error.Record why) f = IsOfRecord why f
IsOfClass error.Memory f = f ≡ fault.Common program.Memory
IsOfClass error.Write f = f ≡ fault.Common program.Write

-- ---- the exit status

-- The exit status of an error: 2 if the lab is another one; 3 if the record is refused; 4 if the record can't be read, a
-- port or the record failed, or the places don't fit the events; 5 if a window, files or threads are missing. An error of
-- `mml_program` has the same status as there
abbrev pub exit_status : Fault → ℕ
exit_status (fault.Common why) = status_of why
exit_status fault.AnotherLab = 2
exit_status (fault.Record why) = 3
exit_status fault.ReadRecord = 4
exit_status fault.Listen = 4
exit_status fault.Accept = 4
exit_status fault.Astray = 4
exit_status fault.Unrecorded = 4
exit_status fault.Place = 5
exit_status fault.FewFiles = 5
exit_status fault.FewThreads = 5
