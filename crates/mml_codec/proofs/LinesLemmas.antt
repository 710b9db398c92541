use Rattle.std.{proofs.lemmas.Bool.Decides.nat_tests, specs.Str.is_utf8, specs.Str.IsUtf8, proofs.lemmas.Str.is_utf8-from_IsUtf8}
use Rattle.std.proofs.Common.{◌≡◌, ℕ, List, Bool, cond, Option, Some, None, Err, ok_or, option_and_then, ap, arith}
use Rattle.serde_json.specs.{Data.Data, Data.object, Data.Members, Find.as_object, Read.read}
use Rattle.mml_plain.specs.Reading.{object_in}
use Rattle.mml_codec.specs.{Requests.request, Lines.value_in, Lines.request_in}
use Rattle.mml_codec.specs.declared.request.LineFault.TheVariants as fault

-- if bytes are UTF-8 and are read as a JSON value, `value_in` is this value
pub value_in-some : (bytes : List ℕ) (d : Data) → IsUtf8 bytes → read bytes ≡ Some d → value_in bytes ≡ Some d
unfolding value_in
value_in-some bytes d u e = rw (is_utf8-from_IsUtf8 bytes u) e

-- the request in a line with a JSON value is the request that this value is read as; if the value is read as no
-- request, the line is malformed
pub request_in-some : (bytes : List ℕ) (d : Data) → value_in bytes ≡ Some d → request_in bytes ≡ ok_or (request d) fault.Malformed
unfolding request_in
request_in-some bytes d e = rw e

no_object : (d : Data) → as_object d ≡ None → request d ≡ None
unfolding request
no_object d e = grind (arith, nat_tests)

nothing_asked : (b : Bool) (o : Option Data) → cond b (option_and_then as_object o) None ≡ None → option_and_then request (cond b o None) ≡ None
nothing_asked b o e = grind (arith, nat_tests, no_object)

-- the request in a line with a JSON object is the request that this object is read as; if the object is read as no
-- request, the line is malformed
pub request_in-object : (line : List ℕ) (ms : Members) → object_in line ≡ Some ms → request_in line ≡ ok_or (request (object ms)) fault.Malformed
unfolding value_in object_in
request_in-object line ms e = request_in-some line (object ms) (grind (arith, nat_tests, is_utf8 line, read line))

-- a line that isn't an object is malformed
pub request_in-other : (line : List ℕ) → object_in line ≡ None → request_in line ≡ Err fault.Malformed
unfolding request_in value_in object_in
request_in-other line e = ap (λ o. ok_or o fault.Malformed) (nothing_asked (is_utf8 line) (read line) e)
