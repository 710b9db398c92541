-- The requests in a student's lines, and the clauses that denied them. A clause is a condition under which a request is
-- granted. A participant is known on a connection from a granted hello to the bye.
use Rattle.std.specs.{Prelude.ℕ, Prelude.◌==◌, Prelude.◌&&◌, Prelude.Bool, Prelude.true, Prelude.false, Prelude.List, Prelude.Option, Prelude.None, Prelude.Some, Prelude.count_by, List.filter}
use Rattle.mml_rules.specs.declared.rule.Kind.{Kind}
use Rattle.mml_tally.specs.{declared.ask.Ask.Ask, declared.ask.Line.Line, declared.ask.Denials.Denials, declared.marks.ByRule.ByRule, Marks.is_kind}
use Rattle.mml_rules.specs.declared.rule.Kind.TheVariants as kind
use Rattle.mml_tally.specs.declared.ask.Line.TheVariants as line

-- whether s is the student who was known when a line came; false if none was
abbrev pub is_student : ℕ → Option ℕ → Bool
is_student s None = false
is_student s (Some t) = t == s

-- the lines that came while student s was known
abbrev pub asks_by : ℕ → List Ask → List Ask
asks_by s asks = filter (λ a. is_student s a.who) asks

-- whether the clause that denied a line has the number c; false if none denied it
abbrev pub is_clause : ℕ → Option ℕ → Bool
is_clause c None = false
is_clause c (Some d) = d == c

-- whether the line isn't a request
abbrev pub is_malformed : Line → Bool
is_malformed line.Malformed = true
is_malformed (line.Move n k) = false
is_malformed line.Other = false

-- whether the line asks for a move of this rule at the node with this identifier
abbrev pub is_move : ℕ → Kind → Line → Bool
is_move id k line.Malformed = false
is_move id k (line.Move n j) = n == id && is_kind k j
is_move id k line.Other = false

-- how many lines each clause denied, and how many were no request
abbrev pub denials_in : List Ask → Denials
denials_in own = record {
  first = count_by (λ a. is_clause 1 a.denied) own;
  second = count_by (λ a. is_clause 2 a.denied) own;
  third = count_by (λ a. is_clause 3 a.denied) own;
  fourth = count_by (λ a. is_clause 4 a.denied) own;
  malformed = count_by (λ a. is_malformed a.line) own;
}

-- how many of the lines asked for a move of each rule at the node with this identifier
abbrev pub moves_asked : ℕ → List Ask → ByRule
moves_asked id own = record {
  update = count_by (λ a. is_move id kind.Update a.line) own;
  marriage = count_by (λ a. is_move id kind.Marriage a.line) own;
  seduction = count_by (λ a. is_move id kind.Seduction a.line) own;
  abandonment = count_by (λ a. is_move id kind.Abandonment a.line) own;
}

-- how many lines of a student each clause denied, and how many were no request
abbrev pub denials_of : List Ask → ℕ → Denials
denials_of asks s = denials_in (asks_by s asks)

-- how many moves of each rule a student asked for at the node with this identifier
abbrev pub moves_asked_by : List Ask → ℕ → ℕ → ByRule
moves_asked_by asks id s = moves_asked id (asks_by s asks)
