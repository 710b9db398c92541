-- The decision on a command in a course, that is, in a lab and the current state of its run.
use Rattle.std.specs.Prelude.{ℕ, ◌≡◌, Bool, length, Result, Ok, Err, MatchResult}
use Rattle.mml_lab.specs.declared.who.Who.{Who}
use Rattle.mml_policy.specs.{declared.command.Command.Command, declared.course.Course.Course, declared.ruling.Ruling.Ruling, declared.verdict.Leave.Leave, Rulings.ruling, Verdicts.clauses}
use Rattle.mml_board.specs.declared.denial.Denial.{Denial}

-- there are as many identifiers as nodes
abbrev pub NamesEachNode : Course → Type 0
NamesEachNode k = length k.ids.now ≡ length k.board.now.network.registers

-- the clauses of a command in a course, and what they allow
abbrev pub clauses_in : Course → Who → Command → Result Leave Denial
clauses_in k x c = clauses k.ids.now k.roster.now k.board.now x c

-- a function returns the result of the command's clauses: `Ok` has what the command may do, and `Err` has its denial
abbrev pub AnswersClauses : {A : Type 0} → Course → Who → Command → (A → Leave) → Result A Denial → Type 0
AnswersClauses k x c leave found = MatchResult found (λ a. clauses_in k x c ≡ Ok (leave a)) (λ d. clauses_in k x c ≡ Err d)

-- the ruling on a command in a course
abbrev pub ruling_in : Course → ℕ → Bool → Who → Command → Ruling
ruling_in k limit is_halted x c = ruling k.ids.now k.roster.now limit is_halted k.board.now x c
