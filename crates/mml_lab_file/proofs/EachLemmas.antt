-- Reading the values of an array one after another in a loop.
use Rattle.std.proofs.Common.{◌+◌, List, [], ◌++◌, Result, Ok}
use Rattle.mml_ids.specs.Gives.{◌>>=◌}
use Rattle.mml_lab.specs.declared.lab_fault.LabFault.{LabFault}

-- the values read before, followed by the result of reading the rest
abbrev pub with_front : {A : Type 0} → List A → Result (List A) LabFault → Result (List A) LabFault
with_front front read = read >>= λ xs. Ok (front ++ xs)
