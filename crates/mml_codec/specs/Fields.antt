-- Flat objects, whose values are no arrays or objects.
use Rattle.std.specs.{Prelude.◌≡◌, Prelude.ℕ, Prelude.◌<◌, Prelude.◌^◌, Prelude.List, Prelude.map, Prelude.Bool, Prelude.None, Prelude.Some, Prelude.IsUtf8, List.AllByRecursion}
use Rattle.mml_plain.specs.LookUps.{text_at, number_at, truth_at, register_at}
use Rattle.mml_codec.specs.Objects.{members_with, object_with}
use Rattle.serde_json.specs.Data as value

-- the value of a key: a number, a word that the protocol fixes, any other text, a truth value, or null
pub data Field : Type 0 where
  number : ℕ → Field
  word : List ℕ → Field
  text : List ℕ → Field
  truth : Bool → Field
  null : Field

-- the JSON value of a field
abbrev pub value_of : Field → value.Data
value_of (number n) = value.number (value.unsigned n)
value_of (word w) = value.string w
value_of (text s) = value.string s
value_of (truth b) = value.boolean b
value_of null = value.null

-- the key with its JSON value
abbrev pub member_of : List ℕ × Field → List ℕ × value.Data
member_of f = (f.0, value_of f.1)

-- the keys with their JSON values, in this order
abbrev pub members_of : List (List ℕ × Field) → value.Members
members_of fs = members_with (map member_of fs)

-- the object with these keys, in this order
abbrev pub object_of : List (List ℕ × Field) → value.Data
object_of fs = object_with (map member_of fs)

-- a field's number fits 64 bits, and a field's text is UTF-8
abbrev pub IsWritableField : Field → Type 0
IsWritableField (number n) = n < 2 ^ 64
IsWritableField (word w) = Unit {0}
IsWritableField (text s) = IsUtf8 s
IsWritableField (truth b) = Unit {0}
IsWritableField null = Unit {0}

-- each number fits 64 bits, and each text is UTF-8
abbrev pub AreWritable : List (List ℕ × Field) → Type 0
AreWritable fs = AllByRecursion (λ f. IsWritableField f.1) fs

-- the JSON value is an object in which the key has the field's value
abbrev pub Has : value.Data → List ℕ × Field → Type 0
Has d (key, number n) = number_at key d ≡ Some n
Has d (key, word w) = text_at key d ≡ Some w
Has d (key, text s) = text_at key d ≡ Some s
Has d (key, truth b) = truth_at key d ≡ Some b
Has d (key, null) = register_at key d ≡ Some None

-- the JSON value has each of the fields
abbrev pub HasEach : value.Data → List (List ℕ × Field) → Type 0
HasEach d fs = AllByRecursion (Has d) fs
