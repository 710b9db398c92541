-- The marks of a student, counted in a list of events. The place of an event is its number in the list of events, from
-- 1.
use Rattle.std.specs.Prelude.{ℕ, ◌+◌, ◌-◌, ◌==◌, Bool, true, false, List, length, Option, option_map, count_by}
use Rattle.std.specs.List.{filter, list_any, slice_get}
use Rattle.mml_ids.specs.Search.{count_below}
use Rattle.mml_rules.specs.declared.rule.Kind.{Kind}
use Rattle.mml_lab.specs.Rosters.{RosterValue}
use Rattle.mml_board.specs.declared.event.Event.{Event}
use Rattle.mml_tally.specs.{declared.fate.Fate.Fate, declared.granted_move.Move.Move, declared.marks.ByRule.ByRule, declared.marks.Marks.Marks, Moves.moves, Owners.is_shared}
use Rattle.mml_rules.specs.declared.rule.Kind.TheVariants as kind
use Rattle.mml_tally.specs.declared.fate.Fate.TheVariants as fate

-- whether two kinds of rules are the same
abbrev pub is_kind : Kind → Kind → Bool
is_kind kind.Update kind.Update = true
is_kind kind.Marriage kind.Marriage = true
is_kind kind.Seduction kind.Seduction = true
is_kind kind.Abandonment kind.Abandonment = true
is_kind _ _ = false

-- whether the fate is that the close at place q applied a move
abbrev pub is_fate_at : ℕ → Fate → Bool
is_fate_at q (fate.Applied p) = p == q
is_fate_at q _ = false

-- whether the close at place q applied the move
abbrev pub is_applied_at : ℕ → Move → Bool
is_applied_at q m = is_fate_at q m.fate

-- whether the fate is that some close applied a move
abbrev pub is_fate_applied : Fate → Bool
is_fate_applied (fate.Applied p) = true
is_fate_applied _ = false

-- whether some close applied the move
abbrev pub is_applied : Move → Bool
is_applied m = is_fate_applied m.fate

-- the moves of a student
abbrev pub moves_by : ℕ → List Move → List Move
moves_by s ms = filter (λ m. m.who == s) ms

-- the moves at a node
abbrev pub moves_at : ℕ → List Move → List Move
moves_at i ms = filter (λ m. m.node == i) ms

-- the moves that a close applied
abbrev pub applied : List Move → List Move
applied ms = filter is_applied ms

-- how many moves there are of each rule
abbrev pub by_rule : List Move → ByRule
by_rule ms = record {
  update = count_by (λ m. is_kind kind.Update m.kind) ms;
  marriage = count_by (λ m. is_kind kind.Marriage m.kind) ms;
  seduction = count_by (λ m. is_kind kind.Seduction m.kind) ms;
  abandonment = count_by (λ m. is_kind kind.Abandonment m.kind) ms;
}

-- the number of closes among the first n events that applied one of the moves
abbrev pub count_applying_closes : ℕ → List Move → ℕ
count_applying_closes n ms = count_below (n + 1) (λ q. list_any (is_applied_at q) ms)

-- the place at which the first move was granted, or None if there are no moves
abbrev pub first_place : List Move → Option ℕ
first_place ms = option_map (λ m. m.place) (slice_get ms 0)

-- the place at which the last move was granted, or None if there are no moves
abbrev pub last_place : List Move → Option ℕ
last_place ms = option_map (λ m. m.place) (slice_get ms (length ms - 1))

-- how many of the moves are at nodes that several students own
abbrev pub count_shared : RosterValue → List Move → ℕ
count_shared r ms = count_by (λ m. is_shared r m.node) ms

-- the marks of a student whose moves are `own`, in a run of n events
abbrev pub marks_from : RosterValue → ℕ → List Move → Marks
marks_from r n own = record {
  granted = by_rule own;
  applied = by_rule (applied own);
  closes = count_applying_closes n own;
  first = first_place own;
  last = last_place own;
  shared = count_shared r (applied own);
}

-- the marks of a student in a list of events
abbrev pub marks_of : RosterValue → List Event → ℕ → Marks
marks_of r es s = marks_from r (length es) (moves_by s (moves es))
