-- How a script ends in a hall that was new at its beginning, for the functions that `run_script` calls.
use Rattle.std.specs.Prelude.{ℕ, List, Option, Result, Ok, Err, ⊤}
use Rattle.mml_hall.specs.{declared.script.ScriptFault.ScriptFault, Halls.HallValue, Journals.Journals, Scripts.Finished, Scripts.Stopped}

-- all lines were answered (`Finished`), or an error came (`Stopped`)
abbrev pub EndsScript : {S : Type 0} → (S → Option (List ℕ)) → (S → ℕ) → Result ⊤ ScriptFault → HallValue S → HallValue S → Option (List ℕ) → Option (List ℕ)
    → Option (List ℕ) → Option (List ℕ) → Type 0
EndsScript contents failures (Ok done) opened hall input left wrote wrote' =
    Finished (Journals contents failures opened.lab opened.sink) hall opened.lab input left wrote wrote'
EndsScript contents failures (Err fault) opened hall input left wrote wrote' =
    Stopped (Journals contents failures opened.lab opened.sink) fault opened.lab input left wrote wrote'
