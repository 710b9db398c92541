-- How values are read from tokens, one turn of a loop at a time, and that `serde_json` reads the same values.
use Rattle.std.proofs.Common.{◌≡◌, ℕ, suc, ◌-◌, ◌<◌, ◌≤◌, List, [], ◌∷◌, length, Bool, false, Option, Some, None, Bor, option_map, option_and_then, refl, sym, ap, ◌∙◌, arith}
use Rattle.std.{specs.Str.is_utf8, specs.Str.IsUtf8, proofs.lemmas.Str.is_utf8-from_IsUtf8, proofs.lemmas.Str.IsUtf8-from_is_utf8}
use Rattle.json.specs.{Token.Token, Lex.tokens, Json.parse_map, Json.after_end_array, Json.read_key, Json.items, Json.members, Json.value, Json.if_last}
use Rattle.json.proofs.Grammar.{left, left-parse_map, value_is, value-begin_array, value-begin_object}
use Rattle.serde_json.specs.Data.{Data, Num, null, boolean, number, string, array, object, Items, no_items, item, Members, no_members, put}
use Rattle.serde_json.specs.{Find.as_object, Find.as_u64, Read.of_json, Read.of_items, Read.of_members, Read.converted, Read.number_of}
use Rattle.mml_plain.specs.declared.member_value.MemberValue.{MemberValue, TheVariants.Null, TheVariants.Truth, TheVariants.Number, TheVariants.Text, TheVariants.Other}
use Rattle.mml_plain.specs.{Shown.Shows, Reading.value_at, Reading.items_at, Reading.members_at, Reading.object_at, Reading.object_in}
use Rattle.json.specs.Json as json

beside : {A B : Type 0} (f : A → B) (rest : List Token) (x : Option A) → option_map (λ b. (b, rest)) (option_map f x) ≡ parse_map f (option_map (λ a. (a, rest)) x)
beside f rest x = grind arith

-- ---- arrays

-- the items that are read if the closing bracket comes next (`Some rest`), and if another value comes next (`None`)
abbrev pub items_turn : ℕ → ℕ → List Token → Option (List Token) → Option (Items × List Token)
items_turn depth n ts (Some rest) = Some (no_items, rest)
items_turn depth n ts None = option_and_then (λ p. parse_map (item p.0) (items_at depth n p.1)) (value_at depth ts)

module _ (more : List Token → Option (json.Items × List Token)) where
  first_item : (j : json.Json) (rest : List Token) (x : Option Data) → of_json j ≡ x
      → converted of_items (parse_map (json.item j) (more rest)) ≡ option_and_then (λ (p : Data × List Token). parse_map (item p.0) (converted of_items (more p.1))) (option_map (λ d. (d, rest)) x)
  first_item j rest x e = grind (arith, beside)

pub items_next : (depth n : ℕ) (ts : List Token) → length ts ≤ n → items_at depth n ts ≡ items_turn depth (n - 1) ts (after_end_array ts)
unfolding items
items_next depth n ts h = grind (arith, value_is)

pub items_more : (depth n : ℕ) (ts rest : List Token) (d : Data) → length ts ≤ n → after_end_array ts ≡ None → value_at depth ts ≡ Some (d, rest)
    → left (items_at depth n ts) ≡ left (items_at depth (n - 1) rest)
items_more depth n ts rest d h going some = grind (arith, items_next, left-parse_map)

-- ---- objects

-- the members that are read, by what comes next: an error, the closing brace, or a key
abbrev pub members_turn : ℕ → Members → ℕ → Option (Option (List ℕ) × List Token) → Option (Members × List Token)
members_turn depth found n None = None
members_turn depth found n (Some (None, rest)) = Some (found, rest)
members_turn depth found n (Some (Some k, rest)) = option_and_then (λ p. members_at depth (put k p.0 found) n p.1) (value_at depth rest)

one_member : (found : Members) (k : List ℕ) (j : json.Json) (d : Data) → of_json j ≡ Some d → (o : Option (json.Members × List Token))
    → converted (λ ms. of_members ms found) (parse_map (json.member k j) o) ≡ converted (λ ms. of_members ms (put k d found)) o
one_member found k j d e o = grind arith

module _ (found : Members) (k : List ℕ) (more : List Token → Option (json.Members × List Token)) where
  first_member : (j : json.Json) (rest : List Token) (x : Option Data) → of_json j ≡ x
      → converted (λ ms. of_members ms found) (parse_map (json.member k j) (more rest))
      ≡ option_and_then (λ (p : Data × List Token). converted (λ ms. of_members ms (put k p.0 found)) (more p.1)) (option_map (λ d. (d, rest)) x)
  first_member j rest x e = grind (arith, one_member)

pub members_suc : (depth : ℕ) (found : Members) (n : ℕ) (ts : List Token) → members_at depth found (suc n) ts ≡ members_turn depth found n (read_key ts)
unfolding members
members_suc depth found n ts = grind (arith, first_member)

pub members_next : (depth : ℕ) (found : Members) (n : ℕ) (ts : List Token) → length ts ≤ n → members_at depth found n ts ≡ members_turn depth found (n - 1) (read_key ts)
unfolding members
members_next depth found n ts h = grind (arith, members_suc)

pub members_more : (depth : ℕ) (found : Members) (n : ℕ) (ts s : List Token) (k : List ℕ) → length ts ≤ n → read_key ts ≡ Some (Some k, s)
    → (rest : List Token) (d : Data) → value_at depth s ≡ Some (d, rest) → members_at depth found n ts ≡ members_at depth (put k d found) (n - 1) rest
members_more depth found n ts s k h named rest d some = grind (arith, members_next)

-- ---- one value

-- the tokens `old` are a value that `v` represents, followed by the tokens `new`
abbrev pub ReadAs : ℕ → List Token → MemberValue → List Token → Type 0
ReadAs depth old v new = (d : Data) × (value_at depth old ≡ Some (d, new)) × Shows v d

pub read_null : (depth : ℕ) (old new : List Token) (t : Token) → old ≡ t ∷ new → t ≡ Token.null → ReadAs depth old Null new
read_null depth old new t first is = (null, grind (arith, value_is), record { text = refl; number = refl; truth = refl; register = refl })

pub read_truth : (depth : ℕ) (old new : List Token) (t : Token) (b : Bool) → old ≡ t ∷ new → t ≡ Token.boolean b → ReadAs depth old (Truth b) new
read_truth depth old new t b first is = (boolean b, grind (arith, value_is), record { text = refl; number = refl; truth = refl; register = refl })

pub read_text : (depth : ℕ) (old new : List Token) (t : Token) (s : Bor (List ℕ)) → old ≡ t ∷ new → t ≡ Token.string s.now → ReadAs depth old (Text s) new
read_text depth old new t s first is = (string s.now, grind (arith, value_is), record { text = refl; number = refl; truth = refl; register = refl })

pub read_number : (depth : ℕ) (old new : List Token) (t : Token) (s : List ℕ) (v : MemberValue) (found : Option ℕ) → old ≡ t ∷ new → t ≡ Token.number s
    → Some found ≡ option_map as_u64 (number_of s) → ((n : Num) → as_u64 n ≡ found → Shows v (number n)) → ReadAs depth old v new
read_number depth old new t s v found first is e shows = grind (arith, value_is)

pub no_number_read : (depth : ℕ) (ts : List Token) (s : List ℕ) → None ≡ option_map as_u64 (number_of s) → value_at depth (Token.number s ∷ ts) ≡ None
no_number_read depth ts s e = grind (arith, value_is)

pub shows_number : (n : Num) (m : ℕ) → as_u64 n ≡ Some m → Shows (Number m) (number n)
shows_number n m e = record { text = refl; number = sym e; truth = refl; register = ap (option_map Some) (sym e) }

pub shows_other_number : (n : Num) → as_u64 n ≡ None → Shows Other (number n)
shows_other_number n e = record { text = refl; number = sym e; truth = refl; register = ap (option_map Some) (sym e) }

array_is : (o : Option (json.Items × List Token)) → converted of_json (parse_map json.array o) ≡ parse_map array (converted of_items o)
array_is o = grind (arith, beside)

object_is : (o : Option (json.Members × List Token)) → converted of_json (parse_map json.object o) ≡ parse_map object (converted (λ ms. of_members ms no_members) o)
object_is o = grind (arith, beside)

pub value_array : (depth : ℕ) (ts : List Token) → 0 < depth → value_at depth (Token.begin_array ∷ ts) ≡ parse_map array (items_at (depth - 1) (length ts) ts)
value_array depth ts h = ap (converted of_json) (value-begin_array depth ts h) ∙ array_is (items (value (depth - 1)) (length ts) ts)

pub value_object : (depth : ℕ) (ts : List Token) → 0 < depth → value_at depth (Token.begin_object ∷ ts) ≡ parse_map object (members_at (depth - 1) no_members (length ts) ts)
value_object depth ts h = ap (converted of_json) (value-begin_object depth ts h) ∙ object_is (members (value (depth - 1)) (length ts) ts)

pub read_array : (depth : ℕ) (ts rest : List Token) (ds : Items) → 0 < depth → items_at (depth - 1) (length ts) ts ≡ Some (ds, rest) → ReadAs depth (Token.begin_array ∷ ts) Other rest
read_array depth ts rest ds h e = (array ds, value_array depth ts h ∙ ap (parse_map array) e, record { text = refl; number = refl; truth = refl; register = refl })

pub read_nested : (depth : ℕ) (ts rest : List Token) (ms : Members) → 0 < depth → members_at (depth - 1) no_members (length ts) ts ≡ Some (ms, rest)
    → ReadAs depth (Token.begin_object ∷ ts) Other rest
read_nested depth ts rest ms h e = (object ms, value_object depth ts h ∙ ap (parse_map object) e, record { text = refl; number = refl; truth = refl; register = refl })

-- ---- the whole text

abbrev whole : Option (json.Json × List Token) → Option Members
whole o = option_and_then as_object (option_and_then of_json (option_and_then (λ p. if_last p.0 p.1) o))

object_at_is : (ts : List Token) → object_at ts ≡ whole (value 127 ts)
object_at_is ts = grind (arith, value_is, value-begin_object)

utf8_is : (line : List ℕ) (b : Bool) → is_utf8 line ≡ b → (IsUtf8 line → ⊥) → b ≡ false
utf8_is line b e h = grind (arith, IsUtf8-from_is_utf8)

-- no object is read from a line that isn't UTF-8
pub no_text : (line : List ℕ) → (IsUtf8 line → ⊥) → object_in line ≡ None
unfolding object_in
no_text line h = rw (utf8_is line (is_utf8 line) refl h)

-- the object that is read from a line of UTF-8 is the one that is read from its tokens
pub object_in_is : (line : List ℕ) → IsUtf8 line → object_in line ≡ object_at (tokens line)
unfolding object_in
object_in_is line h = rw (is_utf8-from_IsUtf8 line h) (sym (object_at_is (tokens line)))
