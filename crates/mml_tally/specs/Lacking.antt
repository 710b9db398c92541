-- The participants whose lines are all recorded. A participant is known on a connection from a granted hello to the
-- bye.
use Rattle.std.specs.Prelude.{◌<◌, ℕ, Bool, ◌&&◌, not, List, [], ◌++◌, length, codes, if◌then◌else◌}
use Rattle.mml_ids.specs.declared.TheConstants.{MAX_NODES}
use Rattle.mml_lab.specs.{declared.who.Who.Who, Labs.LabValue, Rosters.RosterValue, Rosters.name_of}
use Rattle.mml_stable.specs.Reports.{each_below}
use Rattle.mml_tally.specs.declared.record_text.Findings.{Findings}
use Rattle.std.specs.FinSet as set
use Rattle.mml_lab.specs.declared.who.Who.TheVariants as who

-- the participant is the teacher, or a student whose index can be a rank in a set
abbrev pub IsCounted : Who → Type 0
IsCounted who.Teacher = Unit {0}
IsCounted (who.Student s) = s < MAX_NODES

-- whether lines of the participant may be missing, because recording paused while the participant was known
abbrev pub lacks : Findings → Who → Bool
lacks f who.Teacher = f.lacks_teacher
lacks f (who.Student s) = set.contains f.lacking s

-- whether all lines of the participant are recorded: no entry says that lines of anybody may be missing, or that
-- recording paused while the participant was known
abbrev pub has_all_of : Findings → Who → Bool
has_all_of f who = not f.is_cut && not (lacks f who)

-- the name of the participant with a space before it, if all lines of the participant are recorded; otherwise nothing
abbrev pub whole_name : RosterValue → Findings → Who → List ℕ
whole_name r f who = if has_all_of f who then codes " " ++ name_of r who else []

-- the names of those of the first n students whose lines are all recorded, in the lab's order, each with a space before
-- it
abbrev pub whole_names : RosterValue → Findings → ℕ → List ℕ
whole_names r f n = each_below n (λ s. whole_name r f (who.Student s))

-- the line with the participants whose lines are all recorded: the teacher first, and then students in the lab's order
abbrev pub recorded_line : LabValue → Findings → List ℕ
recorded_line lab f = codes "whole" ++ (whole_name lab.roster f who.Teacher ++ (whole_names lab.roster f (length lab.roster.students) ++ codes "\n"))
