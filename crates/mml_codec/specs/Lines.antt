-- The request in a line.
use Rattle.std.specs.Prelude.{List, ℕ, Bool, true, false, Option, None, Result, Ok, Err, ok_or, option_and_then, if◌then◌else◌}
use Rattle.std.specs.Str.{is_utf8}
use Rattle.serde_json.specs.{Data.Data, Read.read}
use Rattle.mml_codec.specs.{declared.request.LineFault.LineFault, declared.request.Request.Request, Requests.request}
use Rattle.mml_codec.specs.declared.request.LineFault.TheVariants as fault
use Rattle.mml_codec.specs.declared.request.Request.TheVariants as requests

-- whether the error is that memory ran out
abbrev pub is_line_memory : LineFault → Bool
is_line_memory fault.Memory = true
is_line_memory fault.Malformed = false

-- the JSON value in a line, or None if the line isn't UTF-8 or has no JSON value
unfoldable pub value_in : List ℕ → Option Data
value_in line = if is_utf8 line then read line else None

-- the request in a line; the line is malformed if there is none
unfoldable pub request_in : List ℕ → Result Request LineFault
request_in line = ok_or (option_and_then request (value_in line)) fault.Malformed

-- whether the line is a hello, the only request for which memory is allocated
abbrev pub is_hello : Result Request LineFault → Bool
is_hello (Ok (requests.Hello name key)) = true
is_hello (Ok requests.Bye) = false
is_hello (Ok (requests.Do c)) = false
is_hello (Err fault) = false
