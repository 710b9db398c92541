-- The text of a request is one line, and is read as this request.
use Rattle.std.proofs.{lemmas.Bool.Decides.nat_tests, Common.arith}
use Rattle.std.{proofs.Common.◌≡◌, proofs.Common.◌≢◌, proofs.Common.Some, proofs.Common.Ok, proofs.Common.refl, proofs.Common.◌∙◌, specs.List.All}
use Rattle.mml_codec.specs.{declared.request.Request.Request, Fields.object_of, Canonical.canonical, Canonical.IsWritable, Lines.request_in}
use Rattle.mml_codec.specs.Requests.{fields_of, request, by_word, hello_of, move_of, asked_at, fault_of}
use Rattle.mml_codec.proofs.{CompactTextLemmas.text_line, CompactTextLemmas.compact_text_line, LinesLemmas.value_in-some, LinesLemmas.request_in-some}
use Rattle.mml_codec.proofs.FieldsLemmas.{IsObject, flat_object_read, read-object_of}

-- the fields of each request are those of an object: ASCII keys in rising byte order, and ASCII words
IsObject-fields_of : (r : Request) → IsObject (fields_of r)
IsObject-fields_of r = grind (arith, nat_tests)

-- the object of each request is read as this request
request-fields_of : (r : Request) → request (object_of (fields_of r)) ≡ Some r
unfolding request by_word hello_of move_of asked_at fault_of
request-fields_of r = grind (arith, nat_tests)

-- the text of a request has no newline
pub canonical_line : (r : Request) → IsWritable r → All (λ b. b ≢ 10) (canonical r)
unfolding canonical
canonical_line r h = compact_text_line (object_of (fields_of r)) (flat_object_read (fields_of r) (IsObject-fields_of r) h).text

-- the text of a request is read as this request
pub request_in-canonical : (r : Request) → IsWritable r → request_in (canonical r) ≡ Ok r
unfolding canonical
request_in-canonical r h =
    let is = IsObject-fields_of r in
    let utf8 = (text_line (object_of (fields_of r)) (flat_object_read (fields_of r) is h).text).utf8 in
    request_in-some _ (object_of (fields_of r)) (value_in-some _ (object_of (fields_of r)) utf8 (read-object_of (fields_of r) is h))
    ∙ rw (request-fields_of r) refl
