-- What is known of a class before it is served.
use Rattle.mml_lab.specs.Labs.{LabValue}
use Rattle.mml_resuming.specs.Resuming.{IsAudited}
use Rattle.mml_host_program.specs.declared.class.ClassJournal.{ClassJournal}
use Rattle.mml_host_program.specs.declared.class.ClassJournal.TheVariants as journal

-- a journal from which the class goes on passed the audit for this lab
abbrev pub IsAuditedIn : LabValue → ClassJournal → Type 0
IsAuditedIn lab (journal.Old past) = IsAudited lab past.audited
IsAuditedIn lab _ = Unit {0}
