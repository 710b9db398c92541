-- The participants whose lines may be missing in a record. The known participant is the one whose hello was granted in
-- the session.
use Rattle.std.specs.Prelude.{Bool, true, false, ◌||◌, ◌==◌, List, [], ◌∷◌, Option, None, Some}
use Rattle.mml_lab.specs.{declared.who.Who.Who, Rosters.RosterValue}
use Rattle.mml_record.specs.{declared.kept_entry.Entry.Entry, Asks.known_behind}
use Rattle.mml_lab.specs.declared.who.Who.TheVariants as who
use Rattle.mml_record.specs.declared.kept_entry.Entry.TheVariants as entry

-- whether both are the same participant
abbrev pub is_who : Who → Who → Bool
is_who who.Teacher who.Teacher = true
is_who (who.Student s) (who.Student t) = t == s
is_who _ _ = false

-- whether `who` is the participant who is known
abbrev pub is_known_as : Option Who → Who → Bool
is_known_as None who = false
is_known_as (Some x) who = is_who x who

-- whether the entry says that recording pauses, and `who` is the known participant
abbrev pub pauses_for : Option Who → Entry → Who → Bool
pauses_for known (entry.Paused p) who = is_known_as known who
pauses_for known _ who = false

-- who is known after the entries, if `known` is known before them; this is computed from the bytes of lines and replies
abbrev pub known_in : RosterValue → Option Who → List Entry → Option Who
known_in roster known [] = known
known_in roster known (e ∷ es) = known_in roster (known_behind roster known e) es

-- whether some entry says that recording pauses while `who` is known
abbrev pub are_paused_for : RosterValue → Option Who → List Entry → Who → Bool
are_paused_for roster known [] who = false
are_paused_for roster known (e ∷ es) who =
    pauses_for (known_behind roster known e) e who || are_paused_for roster (known_behind roster known e) es who

-- whether some entry says that anything may be missing
abbrev pub are_cut : List Entry → Bool
are_cut [] = false
are_cut (entry.Unrecorded p ∷ es) = true
are_cut (_ ∷ es) = are_cut es
