-- The two members of a denial's JSON text that name its clause and the denial itself; the second follows the first.
use Rattle.std.specs.Prelude.{ℕ, List, codes, Option, None, Some, if◌then◌else◌}
use Rattle.mml_journal.specs.Words.{◌>>=◌, split_at_byte, is_word}

-- the members, if the first of them is `clause`
unfoldable pub if_clause : List ℕ → Option (List ℕ)
if_clause members = if is_word (codes "\"clause\"") (split_at_byte 58 members).0 then Some members else None

-- the members after the first comma, if `clause` is the first of them
unfoldable pub after_comma : List ℕ → Option (List ℕ)
after_comma members = do
  rest ← (split_at_byte 44 members).1
  if_clause rest

-- the members from `clause` on, if `clause` is the first of them, or comes after `at`
unfoldable pub from_clause : List ℕ → Option (List ℕ)
from_clause members = if is_word (codes "\"at\"") (split_at_byte 58 members).0 then after_comma members else if_clause members

-- the members of a denial's text from `clause` on; the text of another reply has none
unfoldable pub denial_members : List ℕ → Option (List ℕ)
denial_members text = do
  members ← (split_at_byte 123 text).1
  from_clause members
