-- The result of reading a request from the fields of a line.
use Rattle.std.specs.Prelude.{◌≡◌, true, Option, Result, Err, ok_or}
use Rattle.serde_json.specs.Data.{Data}
use Rattle.mml_ids.specs.Gives.{Gives}
use Rattle.mml_plain.specs.{declared.fields.Fields.Fields, Holds.Holds}
use Rattle.mml_codec.specs.{declared.request.LineFault.LineFault, declared.request.Request.Request, Lines.is_line_memory, Lines.is_hello}
use Rattle.mml_codec.specs.declared.request.LineFault.TheVariants as fault

-- r is the request in the fields, or `Malformed` if there is none; memory can run out only for a hello
pub record Reads (asked : Data → Option Request) (f : Fields) (r : Result Request LineFault) : Type 0 where
  pub request : (d : Data) → Holds f d → Gives is_line_memory (λ r. r) r (ok_or (asked d) fault.Malformed)
  pub memory : r ≡ Err fault.Memory → (d : Data) → Holds f d → is_hello (ok_or (asked d) fault.Malformed) ≡ true
