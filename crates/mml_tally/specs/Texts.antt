-- The tally of a run: lines of words with one space between them. A world is a network with its registers, its chosen
-- moves, the number of its configuration, and the number of events so far. The place of an event is its number in the
-- list of events, from 1. A node is privileged if some rule is enabled there.
use Rattle.std.specs.Prelude.{ℕ, ◌==◌, Bool, true, false, List, [], ◌∷◌, ◌++◌, length, codes, decimal, slice_index, Option, None, Some, if◌then◌else◌}
use Rattle.mml_lab.specs.{Labs.LabValue, Rosters.RosterValue, Rosters.name_of}
use Rattle.mml_board.specs.{declared.event.Event.Event, World.World, World.configuration, World.privileged_count}
use Rattle.mml_stable.specs.Reports.{each_below}
use Rattle.mml_tally.specs.declared.{granted_move.Move.Move, marks.ByRule.ByRule, marks.Marks.Marks, run.Run.Run, bounds.Bounds.Bounds}
use Rattle.mml_tally.specs.{Moves.moves, Owners.owners_in_order, Owners.is_shared, Marks.by_rule, Marks.moves_by, Marks.moves_at, Marks.marks_of, Runs.run_of, Bounds.bounds_of}
use Rattle.mml_lab.specs.declared.who.Who.TheVariants as who

-- each number with a space before it
abbrev pub numbers_text : List ℕ → List ℕ
numbers_text [] = []
numbers_text (n ∷ ns) = codes " " ++ (decimal n ++ numbers_text ns)

-- a place, or - if there is none
abbrev pub place_text : Option ℕ → List ℕ
place_text None = codes " -"
place_text (Some p) = numbers_text (p ∷ [])

-- how many moves there are of each rule, in the order of the rules
abbrev pub rules_text : ByRule → List ℕ
rules_text n = numbers_text (n.update ∷ n.marriage ∷ n.seduction ∷ n.abandonment ∷ [])

-- the numbers of granted and applied moves by rule, the number of closes that applied one, the places of the first and
-- the last grant, and the number of applied moves at nodes that others own too
abbrev pub marks_text : Marks → List ℕ
marks_text m =
    rules_text m.granted ++ (rules_text m.applied ++ (numbers_text (m.closes ∷ []) ++ (place_text m.first ++ (place_text m.last ++ numbers_text (m.shared ∷ [])))))

-- the line of the student with this name and these marks
abbrev pub student_line : List ℕ → Marks → List ℕ
student_line name m = codes "student " ++ (name ++ (marks_text m ++ codes "\n"))

-- an owner's name, and how many moves there are of each rule
abbrev pub owner_text : List ℕ → ByRule → List ℕ
owner_text name n = codes " " ++ (name ++ rules_text n)

-- owners, each with how many of the moves at a node were granted to that owner, by rule
abbrev pub owners_text : RosterValue → List Move → List ℕ → List ℕ
owners_text r there [] = []
owners_text r there (s ∷ ss) = owner_text (name_of r (who.Student s)) (by_rule (moves_by s there)) ++ owners_text r there ss

-- the line of a node: its identifier, and each owner with the moves that were granted to that owner there
abbrev pub node_line : LabValue → List Move → ℕ → List ℕ
node_line lab all i =
    codes "node" ++ (numbers_text (slice_index lab.ids i ∷ []) ++ (owners_text lab.roster (moves_at i all) (owners_in_order lab.roster i) ++ codes "\n"))

-- the line with the most moves, rounds and events that may follow
abbrev pub bounds_line : Bounds → List ℕ
bounds_line b = codes "bounds" ++ (numbers_text (b.moves ∷ b.rounds ∷ b.events ∷ []) ++ codes "\n")

-- ` stable` if the configuration has no privileged node, otherwise ` unstable`
abbrev pub stable_text : Bool → List ℕ
stable_text true = codes " stable"
stable_text false = codes " unstable"

-- the line of a run: the number of events, the number of the configuration, whether this is stable, and the counts of
-- the run
abbrev pub run_line : World → Run → List ℕ
run_line w r =
    codes "run" ++ (numbers_text (w.place ∷ w.number ∷ []) ++ (stable_text (privileged_count (configuration w) == 0)
    ++ (numbers_text (r.closes ∷ r.faults ∷ r.links ∷ r.cuts ∷ r.moves ∷ r.moves_since ∷ r.closes_since ∷ []) ++ codes "\n")))

-- a line for each student below n, in the lab's order
abbrev pub students_text : LabValue → List Event → ℕ → List ℕ
students_text lab es n = each_below n (λ s. student_line (name_of lab.roster (who.Student s)) (marks_of lab.roster es s))

-- a line for each node below n that several own, in rising order
abbrev pub nodes_text : LabValue → List Event → ℕ → List ℕ
nodes_text lab es n = each_below n (λ i. if is_shared lab.roster i then node_line lab (moves es) i else [])

-- the last two lines of a tally: the most moves, rounds and events that may follow from the world w, and the counts of
-- the run that led to w
abbrev pub ends_text : World → List Event → List ℕ
ends_text w es = bounds_line (bounds_of w) ++ run_line w (run_of es)

-- the tally of a run that led to the world w: the lines of the students, of the nodes that several own, of the most
-- that may follow, and of the run
abbrev pub tally_text : LabValue → World → List Event → List ℕ
tally_text lab w es = students_text lab es (length lab.roster.students) ++ (nodes_text lab es (length lab.ids) ++ ends_text w es)
