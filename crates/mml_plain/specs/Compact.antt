-- What a JSON text without escapes begins with: spaces, a string, a value or a member. In each definition `rest` is the
-- text after it.
use Rattle.std.specs.Prelude.{◌≡◌, ℕ, List, [], ◌∷◌, ◌++◌, fold, Bool, true, false, not, ◌&&◌, ◌==◌, nat_lt, Some}
use Rattle.std.specs.Str.{IsUtf8}
use Rattle.json.specs.{Token.Token, Print.token_text, Print.ends, Print.print_from, Print.ArePrintable, Spaced.IsGap}
use Rattle.serde_json.specs.Data.{Data}
use Rattle.mml_plain.specs.{declared.member_value.MemberValue.MemberValue, declared.fields.Fields.Fields, Fields.with, Reading.value_at, Shown.Shows}

-- whether the byte may be in a string without escapes: it is from 32 to 127, and neither a quotation mark nor a
-- backslash
abbrev pub is_bare_byte : ℕ → Bool
is_bare_byte b = nat_lt 31 b && (nat_lt b 128 && (not (b == 34) && not (b == 92)))

-- whether each byte may be in a string without escapes
abbrev pub is_bare : List ℕ → Bool
is_bare [] = true
is_bare (b ∷ bs) = is_bare_byte b && is_bare bs

-- the text is white space, if any, followed by `rest`
pub record Spaced (text : List ℕ) (rest : List ℕ) : Type 0 where
  pub gap : List ℕ
  pub is_gap : IsGap gap
  pub spelled : text ≡ gap ++ rest

-- whether the last of the tokens ends a value; false if there are no tokens
abbrev pub is_value_ended : List Token → Bool
is_value_ended ts = fold (λ _ t. ends t) false ts

-- the text is white space, if any, a quotation mark, and `rest`
pub record BeginsQuoted (text : List ℕ) (rest : List ℕ) : Type 0 where
  pub at_quote : List ℕ
  pub spaced : Spaced text at_quote
  pub quote : at_quote ≡ 34 ∷ rest

-- the text is the tokens of a JSON value, followed by `rest`; `v` represents this value
pub record BeginsValue (text : List ℕ) (v : MemberValue) (rest : List ℕ) : Type 0 where
  pub first : Token
  pub others : List Token
  pub printable : ArePrintable (first ∷ others)
  pub utf8 : IsUtf8 (token_text first ++ print_from (ends first) others)
  pub ends_value : is_value_ended (first ∷ others) ≡ true
  pub datum : Data
  pub value : (ts : List Token) → value_at 126 (first ∷ (others ++ ts)) ≡ Some (datum, ts)
  pub shows : Shows v datum
  pub spelled : text ≡ token_text first ++ (print_from (ends first) others ++ rest)

-- the text is white space, if any, and a member with the key `k` and the value `v`, followed by `rest`
pub record BeginsMember (text : List ℕ) (k : List ℕ) (v : MemberValue) (rest : List ℕ) : Type 0 where
  pub at_key : List ℕ
  pub spaced : Spaced text at_key
  pub key_utf8 : IsUtf8 k
  pub after_key : List ℕ
  pub key : at_key ≡ token_text (Token.key k) ++ after_key
  pub at_value : List ℕ
  pub spaced_value : Spaced after_key at_value
  pub value : BeginsValue at_value v rest

-- the text, which comes after a colon, is white space, if any, and the value `v`, followed by `rest`
pub record BeginsAfter (text : List ℕ) (v : MemberValue) (rest : List ℕ) : Type 0 where
  pub at_value : List ℕ
  pub spaced_value : Spaced text at_value
  pub value : BeginsValue at_value v rest

-- the text is a member followed by `rest`, and `new` is the fields `old` with this member added
pub record PutsMember (text : List ℕ) (rest : List ℕ) (old : Fields) (new : Fields) : Type 0 where
  pub key : List ℕ
  pub value : MemberValue
  pub member : BeginsMember text key value rest
  pub put : new ≡ with key value old

-- the text, which comes after a quotation mark, is a key without escapes and its value, followed by `rest`; `new` is
-- the fields `old` with this member added
pub record PutsKnown (text : List ℕ) (rest : List ℕ) (old : Fields) (new : Fields) : Type 0 where
  pub key : List ℕ
  pub is_bare_key : is_bare key ≡ true
  pub value : MemberValue
  pub after_key : List ℕ
  pub key_first : text ≡ key ++ 34 ∷ 58 ∷ after_key
  pub named : BeginsAfter after_key value rest
  pub put : new ≡ with key value old
