-- The lines that `verify` prints about a record.
use Rattle.std.specs.{Prelude.ℕ, Prelude.Bool, Prelude.true, Prelude.false, Prelude.List, Prelude.[], Prelude.◌∷◌, Prelude.◌++◌, Prelude.codes, Prelude.decimal, List.concat}
use Rattle.mml_lab.specs.Labs.{LabValue}
use Rattle.mml_tally.specs.{declared.record_text.Findings.Findings, Lacking.recorded_line}

-- the end of the first line, after the number of events; `not whole` is a part of this end if the record isn't whole
abbrev pub end_of : Bool → List ℕ
end_of true = codes " events\n"
end_of false = codes " events, not whole\n"

-- the first line: the summary of a record that passed, with the number of events in its journal
abbrev pub verified_line : Findings → ℕ → List ℕ
verified_line found events =
    concat (codes "ok: " ∷ decimal found.sessions ∷ codes " sessions, " ∷ decimal found.lines ∷ codes " lines, " ∷ decimal events ∷ end_of found.whole ∷ [])

-- the line with the number of events that came before the record
abbrev pub begun_line : ℕ → List ℕ
begun_line begun = concat (codes "begun after " ∷ decimal begun ∷ codes " events\n" ∷ [])

-- the first line, then the line about the accounts whose lines are all recorded, and then the line about the events
-- before the record
abbrev pub verified_text : LabValue → Findings → ℕ → ℕ → List ℕ
verified_text lab found events begun = verified_line found events ++ (recorded_line lab found ++ begun_line begun)
