-- How many of a student's lines got each denial, the sums for each clause, and the student's line in the tally. A
-- clause is a condition under which a request is granted. A participant is known on a connection from a granted hello
-- to the bye.
use Rattle.std.specs.Prelude.{◌≡◌, ◌+◌, ℕ, Bool, true, false, List, [], ◌∷◌, ◌++◌, codes, Option, None, Some, option_map, count_by}
use Rattle.mml_lab.specs.{Labs.LabValue, Rosters.name_of}
use Rattle.mml_board.specs.declared.denial.Denial.{Denial}
use Rattle.mml_stable.specs.Reports.{each_below}
use Rattle.mml_tally.specs.declared.{ask.Ask.Ask, ask.Denials.Denials, student_denials.StudentDenial.StudentDenial, student_denials.NamedDenials.NamedDenials}
use Rattle.mml_tally.specs.{Asks.asks_by, Texts.numbers_text}
use Rattle.mml_lab.specs.declared.who.Who.TheVariants as who
use Rattle.mml_board.specs.declared.denial.Denial.TheVariants as denial
use Rattle.mml_tally.specs.declared.student_denials.StudentDenial.TheVariants as named

-- the denial if a known student can get it, otherwise None
abbrev pub student_denial : Denial → Option StudentDenial
student_denial denial.Greeted = Some named.Greeted
student_denial denial.Hidden = Some named.Hidden
student_denial denial.NotOwner = Some named.NotOwner
student_denial denial.NotTeacher = Some named.NotTeacher
student_denial (denial.Stale at) = Some named.Stale
student_denial denial.Chosen = Some named.Chosen
student_denial denial.Guard = Some named.Guard
student_denial _ = None

-- the number of the clause of each denial that a student can get
abbrev pub clause_named : StudentDenial → ℕ
clause_named named.Greeted = 1
clause_named named.Hidden = 1
clause_named named.NotOwner = 1
clause_named named.NotTeacher = 1
clause_named named.Stale = 2
clause_named named.Chosen = 3
clause_named named.Guard = 4

-- whether the line was denied, with the denial of this name
abbrev pub is_named : StudentDenial → Option StudentDenial → Bool
is_named named.Greeted (Some named.Greeted) = true
is_named named.Hidden (Some named.Hidden) = true
is_named named.NotOwner (Some named.NotOwner) = true
is_named named.NotTeacher (Some named.NotTeacher) = true
is_named named.Stale (Some named.Stale) = true
is_named named.Chosen (Some named.Chosen) = true
is_named named.Guard (Some named.Guard) = true
is_named _ _ = false

-- how many of the lines got each denial that a student can get
abbrev pub named_in : List Ask → NamedDenials
named_in own = record {
  greeted = count_by (λ a. is_named named.Greeted a.named) own;
  hidden = count_by (λ a. is_named named.Hidden a.named) own;
  not_owner = count_by (λ a. is_named named.NotOwner a.named) own;
  not_teacher = count_by (λ a. is_named named.NotTeacher a.named) own;
  stale = count_by (λ a. is_named named.Stale a.named) own;
  chosen = count_by (λ a. is_named named.Chosen a.named) own;
  guard = count_by (λ a. is_named named.Guard a.named) own;
}

-- how many lines of a student got each denial that a student can get
abbrev pub named_of : List Ask → ℕ → NamedDenials
named_of asks s = named_in (asks_by s asks)

-- the line of a student: how many lines got each denial, first the four of clause 1, and then those of clauses 2, 3 and
-- 4
abbrev pub denials_line : List ℕ → NamedDenials → List ℕ
denials_line name n = codes "denials " ++ (name
    ++ (numbers_text (n.greeted ∷ n.hidden ∷ n.not_owner ∷ n.not_teacher ∷ n.stale ∷ n.chosen ∷ n.guard ∷ []) ++ codes "\n"))

-- a line for each student below n, in the lab's order
abbrev pub denials_text : LabValue → List Ask → ℕ → List ℕ
denials_text lab asks n = each_below n (λ s. denials_line (name_of lab.roster (who.Student s)) (named_of asks s))

-- ---- the counts for each clause are sums of the counts for each denial

-- a student's line was denied by the clause of its named denial, or by none if it has none; any other line is allowed
abbrev pub IsNamed : Option ℕ → Option ℕ → Option StudentDenial → Type 0
IsNamed None denied named = Unit {0}
IsNamed (Some s) denied named = denied ≡ option_map clause_named named

-- each student's line was denied by the clause of its named denial, or by none if it has none
abbrev pub AreNamed : List Ask → Type 0
AreNamed [] = Unit {0}
AreNamed (a ∷ asks) = IsNamed a.who a.denied a.named × AreNamed asks

-- for each clause, the number of lines that it denied is the sum over its denials
abbrev pub AreSums : Denials → NamedDenials → Type 0
AreSums d n = (d.first ≡ n.greeted + n.hidden + n.not_owner + n.not_teacher) × (d.second ≡ n.stale) × (d.third ≡ n.chosen) × (d.fourth ≡ n.guard)
