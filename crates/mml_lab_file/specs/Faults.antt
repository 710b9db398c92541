-- The errors of identifiers among those of a lab.
use Rattle.mml_ids.specs.declared.id_table.IdFault.{IdFault}
use Rattle.mml_ids.specs.declared.id_table.IdFault.TheVariants as id
use Rattle.mml_lab.specs.declared.lab_fault.LabFault.{LabFault}
use Rattle.mml_lab.specs.declared.lab_fault.LabFault.TheVariants as fault

-- an error of identifiers as one of a lab: out of memory is `Memory`, each other one an `Id`
abbrev pub id_fault_as : IdFault → LabFault
id_fault_as id.Empty = fault.Id id.Empty
id_fault_as id.TooMany = fault.Id id.TooMany
id_fault_as (id.OutOfRange index) = fault.Id (id.OutOfRange index)
id_fault_as (id.Twice index) = fault.Id (id.Twice index)
id_fault_as id.Memory = fault.Memory
