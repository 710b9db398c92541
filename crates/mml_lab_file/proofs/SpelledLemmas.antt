use Rattle.std.proofs.Common.{◌≡◌, ℕ, List, [], ◌∷◌, length, ◌≢◌, Bool, true, cond, Option, Some, None, Err, refl, arith}
use Rattle.std.{specs.Str.is_utf8, specs.Str.IsUtf8, proofs.lemmas.Str.is_utf8-from_IsUtf8, proofs.lemmas.Str.IsUtf8-from_is_utf8}
use Rattle.toml.specs.{declared.value.Value.Value, Data.Members, View.items_view, Parse.parse_document}
use Rattle.mml_lab_file.specs.Shape.{two_of, spelled, table_in, raw_of}
use Rattle.mml_lab.specs.declared.lab_fault.LabFault.TheVariants as fault

-- an array that doesn't have two values is no pair
pub two_none : (vs : List Value) → length vs ≢ 2 → two_of (items_view vs) ≡ None
two_none [] h = refl
two_none (a ∷ []) h = refl
two_none (a ∷ b ∷ []) h = absurd (h (omega arith))
two_none (a ∷ b ∷ c ∷ vs) h = refl

-- if bytes are UTF-8 and parse as a TOML table, `spelled` reads the contents of this table
pub spelled_some : (bytes : List ℕ) (t : Members) → IsUtf8 bytes → parse_document bytes ≡ Some t → spelled bytes ≡ raw_of t
unfolding spelled table_in
spelled_some bytes t u e = rw (is_utf8-from_IsUtf8 bytes u, e) refl

none_at : (b : Bool) (o : Option Members) → (b ≡ true → o ≡ None) → cond b o None ≡ None
none_at b o h = grind arith

-- if bytes aren't UTF-8, or don't parse as TOML, `spelled` returns the error `NotToml`
pub spelled_none : (bytes : List ℕ) → (IsUtf8 bytes → parse_document bytes ≡ None) → spelled bytes ≡ Err fault.NotToml
unfolding spelled table_in
spelled_none bytes h = rw (none_at (is_utf8 bytes) (parse_document bytes) (λ e. h (IsUtf8-from_is_utf8 bytes e))) refl
