-- If the numbers of a value are integers from 0 to 2 ^ 64 - 1, and its strings are UTF-8, its text is one line of UTF-8,
-- and is read as this value.
use Rattle.std.proofs.lemmas.{Bool.Decides.nat_tests, Bool.and_parts, Bool.and_from, Bool.cases_lt, Bool.cases_eq, List.Elements.All-weaker, List.Folds.list_all-append}
use Rattle.std.proofs.Common.{◌≡◌, ◌≢◌, ℕ, zero, suc, ◌+◌, ◌%◌, ◌^◌, ◌<◌, ◌≤◌, ◌==◌, ◌&&◌, not, List, [], ◌∷◌, ◌++◌}
use Rattle.std.proofs.Common.{Bool, true, false, Some, IsUtf8, decimal, inl, inr, refl, sym, ap, ◌∙◌, subst, append-nil, arith}
use Rattle.std.proofs.lemmas.{Str.IsUtf8-append, Str.IsUtf8-from_ascii, Fmt.IsAscii-decimal, Fmt.decimal_by_steps, List.Sums.AllPass-from_list_all}
use Rattle.std.specs.{Option.option_and_then, List.All, List.list_all}
use Rattle.json.specs.{Lex.tokens, Print.escape_byte, Print.escape, Print.quoted}
use Rattle.json.proofs.Printed.{Utf8.are_ascii, Utf8.IsUtf8-are_ascii, Utf8.IsUtf8-quoted, Utf8.IsUtf8-boolean, Decimals.IsNumber-decimal}
use Rattle.json.proofs.Printed.{Tokens.tokens-print, Trees.value-json_tokens, Trees.ArePrintable-json_tokens}
use Rattle.json.proofs.Printed.Strings.{escape_byte_plain}
use Rattle.serde_json.specs.Data.{unsigned, negative, float, Data, null, boolean, number, string, array, object, Items, no_items, item, Members, no_members, member}
use Rattle.serde_json.specs.Read.{of_json, read, max_depth}
use Rattle.serde_json.specs.Written.{outline, items_outline, members_outline, compact_text, items_text, members_text, comma_if}
use Rattle.serde_json.proofs.Texts.{print-outline}
use Rattle.json.specs.Json as json
use Rattle.json.specs.Tree as tree

-- the value's numbers are integers from 0 to 2 ^ 64 - 1, and its strings and keys are UTF-8
abbrev mutual
  pub HasText : Data → Type 0
  HasText null = Unit {0}
  HasText (boolean b) = Unit {0}
  HasText (number (unsigned n)) = n < 2 ^ 64
  HasText (number (negative z)) = ⊥
  HasText (number (float x)) = ⊥
  HasText (string s) = IsUtf8 s
  HasText (array ds) = ItemsHaveText ds
  HasText (object ms) = MembersHaveText ms

  pub ItemsHaveText : Items → Type 0
  ItemsHaveText no_items = Unit {0}
  ItemsHaveText (item d ds) = HasText d × ItemsHaveText ds

  pub MembersHaveText : Members → Type 0
  MembersHaveText no_members = Unit {0}
  MembersHaveText (member k d ms) = IsUtf8 k × (HasText d × MembersHaveText ms)

mutual
  numbers : (d : Data) → HasText d → tree.HasNumbers (outline d)
  numbers (number (unsigned n)) h = IsNumber-decimal n h
  numbers (number (negative z)) h = absurd h
  numbers (number (float x)) h = absurd h
  numbers (array ds) h = items_numbers ds h
  numbers (object ms) h = members_numbers ms h
  numbers _ h = tt

  items_numbers : (ds : Items) → ItemsHaveText ds → tree.ItemsHaveNumbers (items_outline ds)
  items_numbers no_items h = tt
  items_numbers (item d ds) h = (numbers d h.0, items_numbers ds h.1)

  members_numbers : (ms : Members) → MembersHaveText ms → tree.MembersHaveNumbers (members_outline ms)
  members_numbers no_members h = tt
  members_numbers (member k d ms) h = (numbers d h.1.0, members_numbers ms h.1.1)

-- ---- the text is one line of UTF-8

-- whether no byte is a newline
abbrev test : List ℕ → Bool
test bs = list_all (λ b. not (b == 10)) bs

-- the bytes are UTF-8, and none is a newline
pub record IsLine (bs : List ℕ) : Type 0 where
  pub utf8 : IsUtf8 bs
  pub unbroken : test bs ≡ true

joined : (xs ys : List ℕ) → test xs ≡ true → test ys ≡ true → test (xs ++ ys) ≡ true
joined xs ys u v = list_all-append (λ b. not (b == 10)) xs ys ∙ and_from _ _ u v

join : (xs ys : List ℕ) → IsLine xs → IsLine ys → IsLine (xs ++ ys)
join xs ys u v = record { utf8 = IsUtf8-append xs ys u.utf8 v.utf8; unbroken = joined xs ys u.unbroken v.unbroken }

plain : (xs : List ℕ) → are_ascii xs ≡ true → test xs ≡ true → IsLine xs
plain xs a u = record { utf8 = IsUtf8-are_ascii xs a; unbroken = u }

comma : (later : Bool) → IsLine (comma_if later)
comma true = plain _ refl refl
comma false = plain _ refl refl

-- whether the escapes of all bytes below n contain no newline
abbrev escapes_below : ℕ → Bool
escapes_below zero = true
escapes_below (suc n) = test (escape_byte n) && escapes_below n

escape_below : (n : ℕ) → escapes_below n ≡ true → (x : ℕ) → x < n → test (escape_byte x) ≡ true
escape_below zero e x h = absurd (omega arith)
escape_below (suc n) e x h = let p = and_parts _ _ e in elim (cases_eq x n) [ inl same ↦ rw same p.0 | inr other ↦ escape_below n p.1 x (omega arith) ]

low_escapes : escapes_below 128 ≡ true
unfolding escape_byte
low_escapes = refl

escaped_byte : (x : ℕ) → test (escape_byte x) ≡ true
escaped_byte x = grind (arith, nat_tests, cases_lt, escape_below, low_escapes, escape_byte_plain)

escaped : (s : List ℕ) → test (escape s) ≡ true
escaped [] = refl
escaped (x ∷ xs) = joined (escape_byte x) (escape xs) (escaped_byte x) (escaped xs)

quoted_line : (s : List ℕ) → IsUtf8 s → IsLine (quoted s)
quoted_line s h = record { utf8 = IsUtf8-quoted s h; unbroken = joined (escape s) (34 ∷ []) (escaped s) refl }

digit : (n : ℕ) → n < 10 → test ((48 + n) ∷ []) ≡ true
digit n h = grind (arith, nat_tests)

decimal_line : (n : ℕ) → n < 2 ^ 64 → IsLine (decimal n)
decimal_line n h = record {
  utf8 = IsUtf8-from_ascii _ (IsAscii-decimal n h);
  unbroken = decimal_by_steps (λ n ds. test ds ≡ true) digit (λ n ds big line. joined ds ((48 + n % 10) ∷ []) line (digit (n % 10) (omega arith))) n h;
}

truth : (b : Bool) → IsLine (compact_text (boolean b))
truth b = record { utf8 = IsUtf8-boolean b; unbroken = grind (arith, nat_tests) }

mutual
  pub text_line : (d : Data) → HasText d → IsLine (compact_text d)
  text_line null h = plain _ refl refl
  text_line (boolean b) h = truth b
  text_line (number (unsigned n)) h = decimal_line n h
  text_line (number (negative z)) h = absurd h
  text_line (number (float x)) h = absurd h
  text_line (string s) h = quoted_line s h
  text_line (array ds) h = join (91 ∷ []) _ (plain _ refl refl) (items_line false ds h)
  text_line (object ms) h = join (123 ∷ []) _ (plain _ refl refl) (members_line false ms h)

  items_line : (later : Bool) (ds : Items) → ItemsHaveText ds → IsLine (items_text later ds)
  items_line later no_items h = plain _ refl refl
  items_line later (item d ds) h = join _ _ (comma later) (join _ _ (text_line d h.0) (items_line true ds h.1))

  members_line : (later : Bool) (ms : Members) → MembersHaveText ms → IsLine (members_text later ms)
  members_line later no_members h = plain _ refl refl
  members_line later (member k d ms) h =
      let rest = join _ _ (text_line d h.1.0) (members_line true ms h.1.1) in
      join _ _ (comma later) (join _ _ (quoted_line k h.0) (join (58 ∷ []) _ (plain _ refl refl) rest))

not_ten : (x : ℕ) → not (x == 10) ≡ true → x ≢ 10
not_ten x e same = let bad : false ≡ true = subst (λ (n : ℕ). not (n == 10) ≡ true) same e in cc

-- the text of a value has no newline
pub compact_text_line : (d : Data) → HasText d → All (λ b. b ≢ 10) (compact_text d)
compact_text_line d h = All-weaker _ (λ b. b ≢ 10) not_ten _ (AllPass-from_list_all (λ b. not (b == 10)) _ (text_line d h).unbroken)

-- ---- reading it

-- the text of a value is read as that value, if it doesn't nest too deep
pub read-compact_text : (d : Data) → HasText d → tree.depth (outline d) ≤ max_depth → of_json (outline d) ≡ Some d → read (compact_text d) ≡ Some d
read-compact_text d h shallow e =
    let ts : tokens (compact_text d) ≡ tree.json_tokens (outline d) ++ [] =
    ap tokens (sym (print-outline d)) ∙ tokens-print (tree.json_tokens (outline d)) (ArePrintable-json_tokens (outline d) (numbers d h))
    ∙ sym (append-nil (tree.json_tokens (outline d))) in
    ap (λ o. option_and_then of_json (option_and_then (λ p. json.if_last p.0 p.1) o))
    (ap (json.value max_depth) ts ∙ value-json_tokens (outline d) max_depth [] shallow) ∙ e
