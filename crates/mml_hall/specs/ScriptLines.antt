-- Lines of a script: a request line and the connection that it came on, as one line of text.
use Rattle.std.specs.Prelude.{◌≡◌, ◌≢◌, ◌⊎◌, ℕ, ◌+◌, ◌<◌, ◌≤◌, List, ◌∷◌, ◌++◌, length, decimal}
use Rattle.mml_ids.specs.Lines.{ended}
use Rattle.mml_lines.specs.{LinesOf.IsWithinLimit, LinesOf.IsTooLong, declared.lines.TheConstants.READ_SIZE}
use Rattle.mml_hall.specs.{declared.TheConstants.MAX_SCRIPT_LINE, declared.script_line.ScriptLine.ScriptLine, Turns.RequestLine}
use Rattle.mml_codec.specs.declared.TheConstants.{MAX_REQUEST}

-- the text of a script line, without its newline: the connection, a space and the request
abbrev pub script_line : RequestLine → List ℕ
script_line s = decimal s.connection ++ 32 ∷ s.request

-- the lab has the connection, and neither the request nor the whole line is too long
pub record IsScriptLine (sessions : ℕ) (s : RequestLine) : Type 0 where
  pub some : 0 < s.connection
  pub known : s.connection ≤ sessions
  pub request : IsWithinLimit MAX_REQUEST s.request
  pub whole : length (script_line s) ≤ MAX_SCRIPT_LINE

-- Either the bytes begin with a line that is no script line, followed by fewer bytes than one read may bring. Or they
-- begin with more bytes without a newline than a script line may have, and exceed this limit by at most the size of one
-- read
abbrev pub IsBad : ℕ → List ℕ → Type 0
IsBad sessions held =
    ((line more : List ℕ) × (held ≡ ended line ++ more) × IsWithinLimit MAX_SCRIPT_LINE line
    × ((s : RequestLine) → IsScriptLine sessions s → line ≢ script_line s) × (length more < READ_SIZE))
    ⊎ (IsTooLong MAX_SCRIPT_LINE held × (length held ≤ MAX_SCRIPT_LINE + READ_SIZE))

-- the request line with this connection and this request
abbrev pub request_on : ℕ → List ℕ → RequestLine
request_on n request = record { connection = n; request = request }

-- the script line as contracts describe it, computed from the fields of the struct
abbrev pub line_of : ScriptLine → RequestLine
line_of s = request_on s.connection s.request.now
