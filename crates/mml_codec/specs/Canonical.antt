-- The text of a request.
use Rattle.std.specs.Prelude.{ℕ, List}
use Rattle.serde_json.specs.Written.{compact_text}
use Rattle.mml_codec.specs.{declared.request.Request.Request, Fields.object_of, Fields.AreWritable, Requests.fields_of}

-- the text of the request's object, with no space between its parts
unfoldable pub canonical : Request → List ℕ
canonical r = compact_text (object_of (fields_of r))

-- the request's numbers fit 64 bits, and its texts are UTF-8
abbrev pub IsWritable : Request → Type 0
IsWritable r = AreWritable (fields_of r)
