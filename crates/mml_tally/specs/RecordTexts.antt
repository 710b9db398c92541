-- The lines about a record, which stand between the lines of the nodes and the end of the tally. A clause is a
-- condition under which a request is granted.
use Rattle.std.specs.Prelude.{ℕ, Bool, true, false, List, [], ◌∷◌, ◌++◌, length, codes, slice_index, if◌then◌else◌}
use Rattle.mml_lab.specs.{Labs.LabValue, Rosters.RosterValue, Rosters.name_of}
use Rattle.mml_board.specs.{declared.event.Event.Event, World.World}
use Rattle.mml_stable.specs.Reports.{each_below}
use Rattle.mml_tally.specs.declared.{ask.Ask.Ask, ask.Denials.Denials, record_text.Findings.Findings}
use Rattle.mml_tally.specs.{Lacking.recorded_line, Owners.owners_in_order, Owners.is_shared, Asks.denials_of, Asks.moves_asked_by, Refusals.refused_text, StudentDenials.denials_text}
use Rattle.mml_tally.specs.Texts.{numbers_text, owner_text, students_text, nodes_text, ends_text}
use Rattle.mml_lab.specs.declared.who.Who.TheVariants as who

-- the line of a student: how many lines each of the four clauses denied, and how many were malformed
abbrev pub denied_line : List ℕ → Denials → List ℕ
denied_line name d = codes "denied " ++ (name ++ (numbers_text (d.first ∷ d.second ∷ d.third ∷ d.fourth ∷ d.malformed ∷ []) ++ codes "\n"))

-- a line for each student below n, in the lab's order
abbrev pub denied_text : LabValue → List Ask → ℕ → List ℕ
denied_text lab asks n = each_below n (λ s. denied_line (name_of lab.roster (who.Student s)) (denials_of asks s))

-- each owner, with how many moves of each rule the owner asked for at the node with this identifier
abbrev pub askers_text : RosterValue → List Ask → ℕ → List ℕ → List ℕ
askers_text r asks id [] = []
askers_text r asks id (s ∷ ss) = owner_text (name_of r (who.Student s)) (moves_asked_by asks id s) ++ askers_text r asks id ss

-- the line of a node: the moves that each owner asked for there
abbrev pub asked_line : LabValue → List Ask → ℕ → List ℕ
asked_line lab asks i =
    codes "asked" ++ (numbers_text (slice_index lab.ids i ∷ []) ++ (askers_text lab.roster asks (slice_index lab.ids i) (owners_in_order lab.roster i) ++ codes "\n"))

-- a line for each node below n that several own, in rising order
abbrev pub asked_text : LabValue → List Ask → ℕ → List ℕ
asked_text lab asks n = each_below n (λ i. if is_shared lab.roster i then asked_line lab asks i else [])

-- ` whole` if the record leaves nothing out, and ` cut` if it was cut short, with a newline
abbrev pub whole_text : Bool → List ℕ
whole_text true = codes " whole\n"
whole_text false = codes " cut\n"

-- the numbers of sessions that ended and of lines that were answered, and whether the record is whole
abbrev pub record_line : Findings → List ℕ
record_line f = codes "record" ++ (numbers_text (f.sessions ∷ f.lines ∷ []) ++ whole_text f.whole)

-- the lines about denied requests, about moves that were asked for, and about the whole record
abbrev pub record_text : LabValue → Findings → List Ask → List ℕ
record_text lab f asks = denied_text lab asks (length lab.roster.students) ++ (asked_text lab asks (length lab.ids) ++ record_line f)

-- the first lines of the tally of a run with a record, up to the line `run`
abbrev pub recorded_run_text : LabValue → World → List Event → Findings → List Ask → List ℕ
recorded_run_text lab w es f asks =
    students_text lab es (length lab.roster.students) ++ (nodes_text lab es (length lab.ids) ++ (record_text lab f asks ++ ends_text w es))

-- for each student a line with the counts of refusals, and then for each student a line with the count of each denial
abbrev pub turned_down_text : LabValue → List Ask → List ℕ
turned_down_text lab asks = refused_text lab asks (length lab.roster.students) ++ denials_text lab asks (length lab.roster.students)

-- the tally of a run with a record: the lines of the run, the line with the participants whose lines are all recorded,
-- and the lines with the counts of refusals and of each denial
abbrev pub recorded_text : LabValue → World → List Event → Findings → List Ask → List ℕ
recorded_text lab w es f asks = recorded_run_text lab w es f asks ++ (recorded_line lab f ++ turned_down_text lab asks)
