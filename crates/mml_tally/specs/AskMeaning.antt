-- Definitions with which the laws describe lines that were asked and denied. A clause is a condition under which a
-- request is granted. A participant is known on a connection from a granted hello to the bye.
use Rattle.std.specs.Prelude.{ℕ, ◌+◌, ◌<◌, ◌≡◌, ◌==◌, ◌||◌, Bool, true, List, [], ◌∷◌, Option, None, Some, is_some, is_none, option_map}
use Rattle.std.specs.List.{filter}
use Rattle.mml_tally.specs.declared.ask.{Ask.Ask, Denials.Denials}

-- the lines that came while the teacher or nobody was known on the connection
abbrev pub asks_of_others : List Ask → List Ask
asks_of_others asks = filter (λ a. is_none a.who) asks

-- whether some clause denied the line
abbrev pub is_denied : Ask → Bool
is_denied a = is_some a.denied

-- the number of lines that the four clauses denied together
abbrev pub total_denied : Denials → ℕ
total_denied d = d.first + d.second + d.third + d.fourth

-- whether the value is None, or the number of one of the four clauses
abbrev pub is_numbered : Option ℕ → Bool
is_numbered None = true
is_numbered (Some c) = c == 1 || (c == 2 || (c == 3 || c == 4))

-- if a student was known, it is one of the first n, and the line was denied by no clause, or by one of the clauses 1 to
-- 4
abbrev pub IsKnownOf : ℕ → Option ℕ → Option ℕ → Type 0
IsKnownOf n None denied = Unit {0}
IsKnownOf n (Some s) denied = (s < n) × (is_numbered denied ≡ true)

-- if a student was known at a line, it is one of the first n students; each such line was denied by no clause, or by
-- one of the clauses 1 to 4
abbrev pub AreAsksOf : ℕ → List Ask → Type 0
AreAsksOf n [] = Unit {0}
AreAsksOf n (a ∷ asks) = IsKnownOf n a.who a.denied × AreAsksOf n asks

-- the same line, after each student s was replaced by f s
abbrev pub asked_under : (ℕ → ℕ) → Ask → Ask
asked_under f a = record { who = option_map f a.who; line = a.line; denied = a.denied; named = a.named; refused = a.refused }
