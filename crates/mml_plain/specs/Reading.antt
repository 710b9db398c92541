-- The values that are read from tokens, and the object that is read from a line.
use Rattle.std.specs.{Prelude.ℕ, Prelude.List, Prelude.[], Prelude.◌∷◌, Prelude.length, Prelude.Option, Prelude.Some, Prelude.None, Prelude.option_and_then, Prelude.if◌then◌else◌, Str.is_utf8}
use Rattle.json.specs.{Token.Token, Json.value, Json.items, Json.members}
use Rattle.serde_json.specs.{Data.Data, Data.Items, Data.Members, Data.no_members, Find.as_object, Read.of_json, Read.of_items, Read.of_members, Read.converted, Read.read}

-- the value that the tokens begin with, whose arrays and objects nest at most `depth` deep, and the tokens after it
abbrev pub value_at : ℕ → List Token → Option (Data × List Token)
value_at depth ts = converted of_json (value depth ts)

-- the items of an array up to its closing bracket, read in at most n turns, and the tokens after the bracket
abbrev pub items_at : ℕ → ℕ → List Token → Option (Items × List Token)
items_at depth n ts = converted of_items (items (value depth) n ts)

-- the members `found`, with those up to the closing brace of an object added, read in at most n turns; and the tokens
-- after the brace
abbrev pub members_at : ℕ → Members → ℕ → List Token → Option (Members × List Token)
members_at depth found n ts = converted (λ ms. of_members ms found) (members (value depth) n ts)

-- the members that were read, if nothing follows them
abbrev pub if_over : Option (Members × List Token) → Option Members
if_over None = None
if_over (Some (ms, [])) = Some ms
if_over (Some (ms, t ∷ ts)) = None

-- the members of the object if the tokens are exactly one object, otherwise None
abbrev pub object_at : List Token → Option Members
object_at [] = None
object_at (Token.begin_object ∷ ts) = if_over (members_at 126 no_members (length ts) ts)
object_at (Token.end_object ∷ ts) = None
object_at (Token.begin_array ∷ ts) = None
object_at (Token.end_array ∷ ts) = None
object_at (Token.key k ∷ ts) = None
object_at (Token.string s ∷ ts) = None
object_at (Token.number s ∷ ts) = None
object_at (Token.boolean b ∷ ts) = None
object_at (Token.null ∷ ts) = None
object_at (Token.bad ∷ ts) = None

-- the members of the object that `serde_json` reads from the line, or None if it reads no object
unfoldable pub object_in : List ℕ → Option Members
object_in line = if is_utf8 line then option_and_then as_object (read line) else None
