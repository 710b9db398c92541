-- Values that are read back: if their text is read, the result is the same value. Such values are integers, strings,
-- arrays and objects.
use Rattle.std.proofs.{lemmas.Bool.Decides.nat_tests, lemmas.Bool.and_parts, lemmas.Bool.and_from, lemmas.List.Elements.All-head, lemmas.List.Elements.All-tail, Math.Nat.max-le}
use Rattle.std.proofs.Common.{◌≡◌, ℕ, suc, ◌<◌, ◌≤◌, ◌^◌, List, [], ◌∷◌, Bool, true, ◌&&◌, Some, All, IsUtf8, map, refl, arith}
use Rattle.std.specs.List.{AllByRecursion}
use Rattle.json.proofs.Printed.Utf8.{are_ascii, IsUtf8-are_ascii}
use Rattle.serde_json.specs.Data.{Data, null, boolean, number, unsigned, string, array, Members, no_members, put}
use Rattle.serde_json.specs.{Read.of_json, Read.of_items, Read.of_members, Read.read, Read.max_depth, Written.outline, Written.items_outline, Written.members_outline, Written.compact_text}
use Rattle.serde_json.proofs.Numbers.{number_of-decimal}
use Rattle.mml_codec.specs.{Objects.items_with, Objects.members_with, Objects.array_of, Objects.object_with, ReplyValues.has_rising_keys, ReplyValues.items_have_rising_keys}
use Rattle.mml_codec.proofs.CompactTextLemmas.{HasText, ItemsHaveText, MembersHaveText, read-compact_text}
use Rattle.json.specs.Tree as tree

-- the value is read back, and its arrays and objects nest at most n deep
pub record IsReadable (n : ℕ) (d : Data) : Type 0 where
  pub text : HasText d
  pub back : of_json (outline d) ≡ Some d
  pub shallow : tree.depth (outline d) ≤ n

-- null is read back
pub null_read : (n : ℕ) → IsReadable n null
null_read n = record { text = tt; back = refl; shallow = omega arith }

-- a truth value is read back
pub truth_read : (n : ℕ) (b : Bool) → IsReadable n (boolean b)
truth_read n b = record { text = tt; back = refl; shallow = omega arith }

-- a number of 64 bits without a sign is read back
pub count_read : (n k : ℕ) → k < 2 ^ 64 → IsReadable n (number (unsigned k))
count_read n k h = record { text = h; back = rw (number_of-decimal k h) refl; shallow = omega arith }

-- a string of UTF-8 is read back
pub string_read : (n : ℕ) (s : List ℕ) → IsUtf8 s → IsReadable n (string s)
string_read n s h = record { text = h; back = refl; shallow = omega arith }

-- a word of ASCII is read back
pub word_read : (n : ℕ) (s : List ℕ) → are_ascii s ≡ true → IsReadable n (string s)
word_read n s h = string_read n s (IsUtf8-are_ascii s h)

-- ---- lists

items_back : (n : ℕ) (ds : List Data) → AllByRecursion (IsReadable n) ds
    → ItemsHaveText (items_with ds) × (of_items (items_outline (items_with ds)) ≡ Some (items_with ds)) × (tree.items_depth (items_outline (items_with ds)) ≤ n)
items_back n [] h = (tt, refl, omega arith)
items_back n (d ∷ ds) h = let (text, back, shallow) = items_back n ds h.1 in ((h.0.text, text), rw (h.0.back, back) refl, max-le h.0.shallow shallow)

-- if the items of an array are read back and nest at most n deep, the array is read back and nests at most n + 1 deep
pub items_read : (n : ℕ) (ds : List Data) → AllByRecursion (IsReadable n) ds → IsReadable (suc n) (array (items_with ds))
items_read n ds h = grind (arith, nat_tests, items_back n ds h)

each_read : {A : Type 0} (n : ℕ) (P : A → Type 0) (f : A → Data) → ((x : A) → P x → IsReadable n (f x)) → (xs : List A) → All P xs
    → AllByRecursion (IsReadable n) (map f xs)
each_read n P f each [] h = tt
each_read n P f each (x ∷ xs) h = (each x (All-head P x xs h), each_read n P f each xs (All-tail P x xs h))

-- if each value `f x` is read back and nests at most n deep, their array is read back and nests at most n + 1 deep
pub array_read : {A : Type 0} (n : ℕ) (P : A → Type 0) (f : A → Data) → ((x : A) → P x → IsReadable n (f x)) → (xs : List A) → All P xs
    → IsReadable (suc n) (array_of f xs)
array_read n P f each xs h = items_read n (map f xs) (each_read n P f each xs h)

-- ---- objects

-- the members `found`, after the members of the list were put into them one after another
abbrev pub put_in_turn : List (List ℕ × Data) → Members → Members
put_in_turn [] found = found
put_in_turn (m ∷ ms) found = put_in_turn ms (put m.0 m.1 found)

abbrev pub has_ascii_keys : List (List ℕ × Data) → Bool
has_ascii_keys [] = true
has_ascii_keys (m ∷ ms) = are_ascii m.0 && has_ascii_keys ms

-- the value of each member is read back
abbrev pub AreReadable : ℕ → List (List ℕ × Data) → Type 0
AreReadable n ms = AllByRecursion (λ m. IsReadable n m.1) ms

members_back : (n : ℕ) (ms : List (List ℕ × Data)) (found : Members) → has_ascii_keys ms ≡ true → AreReadable n ms
    → MembersHaveText (members_with ms) × (of_members (members_outline (members_with ms)) found ≡ Some (put_in_turn ms found))
    × (tree.members_depth (members_outline (members_with ms)) ≤ n)
members_back n [] found keys h = (tt, refl, omega arith)
members_back n (m ∷ ms) found keys h =
    let (ascii, others) = and_parts _ _ keys in
    let (text, back, shallow) = members_back n ms (put m.0 m.1 found) others h.1 in
    ((IsUtf8-are_ascii m.0 ascii, (h.0.text, text)), rw h.0.back back, max-le h.0.shallow shallow)

-- the keys are in rising byte order, each occurs once, and all are ASCII
pub record IsKeyed (ms : List (List ℕ × Data)) : Type 0 where
  pub rising : put_in_turn ms no_members ≡ members_with ms
  pub ascii : has_ascii_keys ms ≡ true

-- if the keys of an object rise, and its values are read back and nest at most n deep, it is read back and nests at
-- most n + 1 deep
pub object_read : (n : ℕ) (ms : List (List ℕ × Data)) → IsKeyed ms → AreReadable n ms → IsReadable (suc n) (object_with ms)
object_read n ms keyed h = grind (arith, nat_tests, members_back n ms no_members keyed.ascii h)

-- the text of a value that is read back is read as this value, if it nests at most `max_depth` deep
pub read_value : (n : ℕ) (d : Data) → n ≤ max_depth → IsReadable n d → read (compact_text d) ≡ Some d
read_value n d few h = read-compact_text d h.text (omega (arith, h.shallow, few)) h.back

-- ---- keys in byte order

-- the keys in an array rise if they rise in each of its values `f x`
pub items_rise : {A : Type 0} (f : A → Data) → ((x : A) → has_rising_keys (f x) ≡ true) → (xs : List A) → items_have_rising_keys (items_with (map f xs)) ≡ true
items_rise f each [] = refl
items_rise f each (x ∷ xs) = and_from _ _ (each x) (items_rise f each xs)
