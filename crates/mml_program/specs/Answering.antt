-- The result of a script that the program answered.
use Rattle.std.specs.Prelude.{◌≡◌, ℕ, List, Option, Result, Ok, Err}
use Rattle.mml_lab.specs.Labs.{LabValue}
use Rattle.mml_hall.specs.{declared.script.ScriptFault.ScriptFault, Turns.State, Halls.HallValue, Scripts.Finished, Scripts.Stopped}
use Rattle.mml_program.specs.{declared.fault.Fault.Fault, Faults.of_script}

-- all lines of the input were answered, or an error ended the script; `Leaves` states what the sink contains
abbrev pub AnswersScript : {S : Type 0} → (S → State → Type 0) → Result (HallValue S) Fault → LabValue → Option (List ℕ) → Option (List ℕ) → Option (List ℕ)
    → Option (List ℕ) → Type 0
AnswersScript Leaves (Ok hall) lab input left wrote wrote' = Finished Leaves hall lab input left wrote wrote'
AnswersScript Leaves (Err fault) lab input left wrote wrote' = (why : ScriptFault) × (fault ≡ of_script why) × Stopped Leaves why lab input left wrote wrote'
