-- The refusals `journal` in a record, and the events that follow them. A life of a server is the time from its start to
-- its end; a class that is resumed has a new one. After a refusal `journal` a server grants no event for the rest of
-- its life, in any of its seats. When a new life begins, an entry which says that anything may be missing is written.
use Rattle.std.specs.Prelude.{ℕ, nat_lt, Bool, true, false, List, [], ◌∷◌, if◌then◌else◌, Option, None, Some}
use Rattle.mml_lab.specs.Labs.{LabValue}
use Rattle.mml_record.specs.{declared.kept_entry.Entry.Entry, Certified.is_journal}
use Rattle.mml_record.specs.declared.kept_entry.Entry.TheVariants as entry

-- the first of the two numbers, if there is one, and otherwise the second
abbrev pub or_else : Option ℕ → Option ℕ → Option ℕ
or_else None b = b
or_else (Some a) b = Some a

-- how many events had been seen at the first refusal `journal`: `at` is that number before a line that p events came
-- before, and `halts` is whether this line's reply is the refusal
abbrev pub first_halt : Option ℕ → ℕ → Bool → Option ℕ
first_halt (Some q) p halts = Some q
first_halt None p true = Some p
first_halt None p false = None

-- how many events had been seen at a refusal, if there are more than these among the first n events
abbrev pub outlived_at : Option ℕ → ℕ → Option ℕ
outlived_at None n = None
outlived_at (Some q) n = if nat_lt q n then Some q else None

-- How many events had been seen at the first refusal `journal` that more events of the same life follow; none if no
-- such refusal is followed by any. `at` is the number at the first refusal of the life that the entries go on in, if
-- the entries before them have one, and n is the number of all events of the journal. A life has at least the events up
-- to the next entry which says that anything may be missing, or all events if there is none
abbrev pub outlived : LabValue → ℕ → Option ℕ → List Entry → Option ℕ
outlived lab n at [] = outlived_at at n
outlived lab n at (entry.Said p line out ∷ es) = outlived lab n (first_halt at p (is_journal lab out)) es
outlived lab n at (entry.Left p ∷ es) = outlived lab n at es
outlived lab n at (entry.Unrecorded p ∷ es) = or_else (outlived_at at p) (outlived lab n None es)
outlived lab n at (entry.Paused p ∷ es) = outlived lab n at es
outlived lab n at (entry.Resumed p missed ∷ es) = outlived lab n at es
