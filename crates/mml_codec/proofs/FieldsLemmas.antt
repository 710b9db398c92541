-- The text of a flat object, whose values are no arrays or objects, is read as this object. A value is read back if its
-- text is read as this value.
use Rattle.std.proofs.Common.{◌≡◌, ℕ, ◌≤◌, List, [], ◌∷◌, ◌++◌, Bool, true, ◌&&◌, Some, length, map, drop, sym, ap, ◌∙◌, lit≤}
use Rattle.std.proofs.lemmas.{Bool.and_parts, List.drop_all}
use Rattle.json.specs.{Token.Token, Token.end_object, Print.print}
use Rattle.json.proofs.Printed.Utf8.{are_ascii}
use Rattle.serde_json.specs.{Read.read, Written.outline, Written.members_outline, Written.compact_text}
use Rattle.serde_json.proofs.Texts.{print-outline}
use Rattle.mml_codec.specs.Fields.{Field, number, word, text, truth, null, value_of, member_of, members_of, object_of, IsWritableField, AreWritable}
use Rattle.mml_codec.proofs.ReadBackLemmas.{IsReadable, AreReadable, IsKeyed, null_read, truth_read, count_read, string_read, word_read, object_read, read_value}
use Rattle.json.specs.Tree as tree

-- whether the field is ASCII, if it is a word that the protocol fixes
abbrev has_ascii_word : Field → Bool
has_ascii_word (word w) = are_ascii w
has_ascii_word _ = true

abbrev pub have_ascii_words : List (List ℕ × Field) → Bool
have_ascii_words [] = true
have_ascii_words (f ∷ fs) = has_ascii_word f.1 && have_ascii_words fs

pub record IsObject (fs : List (List ℕ × Field)) : Type 0 where
  pub keyed : IsKeyed (map member_of fs)
  pub ascii : have_ascii_words fs ≡ true

field_read : (f : Field) → has_ascii_word f ≡ true → IsWritableField f → IsReadable 0 (value_of f)
field_read (number n) a h = count_read 0 n h
field_read (word w) a h = word_read 0 w a
field_read (text s) a h = string_read 0 s h
field_read (truth b) a h = truth_read 0 b
field_read null a h = null_read 0

fields_read : (fs : List (List ℕ × Field)) → have_ascii_words fs ≡ true → AreWritable fs → AreReadable 0 (map member_of fs)
fields_read [] a h = tt
fields_read (f ∷ fs) a h = let parts = and_parts (has_ascii_word f.1) (have_ascii_words fs) a in (field_read f.1 parts.0 h.0, fields_read fs parts.1 h.1)

-- a flat object is read back, and nests at most 1 deep
pub flat_object_read : (fs : List (List ℕ × Field)) → IsObject fs → AreWritable fs → IsReadable 1 (object_of fs)
flat_object_read fs is h = object_read 0 (map member_of fs) is.keyed (fields_read fs is.ascii h)

-- the text of a flat object is read as this object
pub read-object_of : (fs : List (List ℕ × Field)) → IsObject fs → AreWritable fs → read (compact_text (object_of fs)) ≡ Some (object_of fs)
read-object_of fs is h = read_value 1 (object_of fs) (lit≤ tt) (flat_object_read fs is h)

-- if only the tokens of an object were printed, the printed text is the object's text
pub object_written : (fs : List (List ℕ × Field)) (items before : List ℕ) (tokens : List Token) → before ≡ []
    → tokens ≡ tree.json_tokens (outline (object_of fs))
    → items ≡ before ++ print tokens → items ≡ compact_text (object_of fs)
object_written fs items before tokens none all written = written ∙ ap (λ xs. xs ++ print tokens) none ∙ ap print all ∙ print-outline (object_of fs)

-- after the tokens of all members, only the closing brace is left
pub object_ended : {X : Type 0} (f : X → List ℕ × Field) (xs : List X) (i : ℕ) (held whole : List Token) → length xs ≤ i
    → held ++ tree.members_tokens (members_outline (members_of (map f (drop i xs)))) ≡ whole → held ++ end_object ∷ [] ≡ whole
object_ended f xs i held whole past e = sym (ap (λ ys. held ++ tree.members_tokens (members_outline (members_of (map f ys)))) (drop_all i xs past)) ∙ e
