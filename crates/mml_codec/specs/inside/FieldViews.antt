-- What the fields of an object mean in the definitions, and the tokens with which they are written.
use Rattle.std.specs.Prelude.{ℕ, List, ◌∷◌}
use Rattle.json.specs.{Token.Token, Tree.json_tokens}
use Rattle.serde_json.specs.Written.{outline}
use Rattle.mml_codec.specs.Fields.{Field, number, word, text, truth, null, value_of}
use Rattle.json.specs.Token as token
use Rattle.mml_codec.specs.declared.object.Field as TheField
use Rattle.mml_codec.specs.declared.object.Field.TheVariants as fields

-- the value of a key, as the definitions have it
abbrev pub field_view : TheField.Field → Field
field_view (fields.Number n) = number n
field_view (fields.Word w) = word w.now
field_view (fields.Text s) = text s.now
field_view (fields.Truth b) = truth b
field_view fields.Null = null

-- the tokens of a key and its value
abbrev pub tokens_of : List ℕ × Field → List Token
tokens_of m = token.key m.0 ∷ json_tokens (outline (value_of m.1))
