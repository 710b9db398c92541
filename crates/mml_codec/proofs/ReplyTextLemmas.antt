-- The text of a reply is the text of its JSON value. A fact is the value of a key in a reply.
use Rattle.std.proofs.lemmas.{Bool.Decides.nat_tests, Bool.and_from, List.Elements.All-head, List.Elements.All-tail}
use Rattle.std.proofs.Common.{◌≡◌, ℕ, List, [], ◌∷◌, ◌++◌, Bool, true, false, Option, All, map, codes, refl, sym, ap, ◌∙◌, arith, append_assoc}
use Rattle.std.specs.{Prelude.flat_map, List.AllByRecursion}
use Rattle.json.specs.Print.{escape_byte, escape}
use Rattle.serde_json.specs.{Data.Data, Data.boolean, Written.compact_text, Written.items_text, Written.members_text, Written.comma_if}
use Rattle.mml_plain.specs.Compact.{is_bare}
use Rattle.mml_plain.proofs.CompactLemmas.{bare_escape}
use Rattle.mml_rules.specs.declared.{regs.Regs.Regs, rule.Kind.Kind}
use Rattle.mml_lab.specs.RosterMeaning.{IsNameByte}
use Rattle.mml_stable.specs.declared.open_link.OpenLink.{OpenLink}
use Rattle.mml_codec.specs.Objects.{items_with, members_with}
use Rattle.mml_ids.specs.Pieces.{truth_text}
use Rattle.mml_codec.specs.Facts.{Fact, Fields, node_text, pointer_text, kind_text, separated, near_text, pair_text, privileged_text, open_link_text, list_then, fact_then}
use Rattle.mml_codec.specs.Facts.{fields_after, pointer_value, kind_value, near_value, pair_value, privileged_value, open_link_value, fact_value, keys_of}
use Rattle.mml_codec.specs.Facts as fact

-- ---- words without escapes

-- a name has no byte that is escaped
pub name_bare : (bs : List ℕ) → All IsNameByte bs → is_bare bs ≡ true
name_bare [] all = refl
name_bare (b ∷ bs) all = grind (arith, nat_tests, All-head, and_from, All-tail, name_bare bs (All-tail IsNameByte b bs all))

-- ---- the texts of one item

truth_is : (b : Bool) → truth_text b ≡ compact_text (boolean b)
truth_is b = grind (arith, nat_tests)

pointer_is : (ids : List ℕ) (p : Option ℕ) → pointer_text ids p ≡ compact_text (pointer_value ids p)
pointer_is ids p = grind (arith, nat_tests)

kind_is : (k : Kind) → kind_text k ≡ compact_text (kind_value k)
unfolding escape_byte
kind_is k = grind (arith, nat_tests)

near_is : (ids : List ℕ) (n : ℕ × Regs) → near_text ids n ≡ compact_text (near_value ids n)
unfolding near_text escape_byte
near_is ids n = rw (truth_is n.1.m, pointer_is ids n.1.p) refl

pair_is : (ids : List ℕ) (p : ℕ × ℕ) → pair_text ids p ≡ compact_text (pair_value ids p)
unfolding pair_text
pair_is ids p = refl

privileged_is : (ids : List ℕ) (n : ℕ × Kind) → privileged_text ids n ≡ compact_text (privileged_value ids n)
unfolding privileged_text
privileged_is ids n = ap (λ t. codes "[" ++ (node_text ids n.0 ++ (codes "," ++ (t ++ codes "]")))) (kind_is n.1)

open_link_is : (ids : List ℕ) (l : OpenLink) → open_link_text ids l ≡ compact_text (open_link_value ids l)
unfolding open_link_text
open_link_is ids l = grind (arith, nat_tests, kind_is)

-- ---- lists, and what follows them

later_items_are : {A : Type 0} (g : A → List ℕ) (f : A → Data) → ((x : A) → g x ≡ compact_text (f x)) → (xs : List A)
    → flat_map (λ t. 44 ∷ t) (map g xs) ++ 93 ∷ [] ≡ items_text true (items_with (map f xs))
later_items_are g f same [] = refl
later_items_are g f same (x ∷ xs) = grind (arith, nat_tests, append_assoc, later_items_are g f same xs)

items_are : {A : Type 0} (g : A → List ℕ) (f : A → Data) → ((x : A) → g x ≡ compact_text (f x)) → (xs : List A)
    → separated (map g xs) ++ 93 ∷ [] ≡ items_text false (items_with (map f xs))
items_are g f same [] = refl
items_are g f same (x ∷ xs) = grind (arith, nat_tests, append_assoc, later_items_are)

list_is : {A : Type 0} (g : A → List ℕ) (f : A → Data) → ((x : A) → g x ≡ compact_text (f x)) → (xs : List A) (rest : List ℕ)
    → list_then (map g xs) rest ≡ 91 ∷ (items_text false (items_with (map f xs)) ++ rest)
list_is g f same xs rest = grind (arith, nat_tests, append_assoc, items_are g f same xs)

-- ---- a fact, and all fields

-- if the fact is a word, none of its bytes is escaped
abbrev pub IsPlainFact : Fact → Type 0
IsPlainFact (fact.word w) = is_bare w ≡ true
IsPlainFact _ = Unit {0}

-- no byte of a key or of a word is escaped
abbrev pub ArePlain : Fields → Type 0
ArePlain fs = AllByRecursion (λ f. (is_bare f.0 ≡ true) × IsPlainFact f.1) fs

quoted_is : (w rest : List ℕ) → is_bare w ≡ true → codes "\"" ++ (w ++ (codes "\"" ++ rest)) ≡ 34 ∷ ((escape w ++ 34 ∷ []) ++ rest)
quoted_is w rest h = ap (λ t. 34 ∷ t) (sym (append_assoc w (34 ∷ []) rest) ∙ ap (λ t. (t ++ 34 ∷ []) ++ rest) (sym (bare_escape w h)))

fact_is : (ids : List ℕ) (f : Fact) (rest : List ℕ) → IsPlainFact f → fact_then ids f rest ≡ compact_text (fact_value ids f) ++ rest
fact_is ids f rest h = grind (arith, nat_tests, quoted_is, truth_is, pointer_is, kind_is, list_is, near_is, pair_is, privileged_is, open_link_is)

-- if no byte of fields is escaped, they have the same text as their JSON members
pub fields_are : (ids : List ℕ) (later : Bool) (fs : Fields) → ArePlain fs
    → fields_after ids (comma_if later) fs ≡ members_text later (members_with (keys_of ids fs))
fields_are ids later [] h = refl
fields_are ids later (f ∷ fs) h =
    let rest = fields_after ids (codes ",") fs in
    let value = compact_text (fact_value ids f.1) in
    let others = members_text true (members_with (keys_of ids fs)) in
    grind (arith, nat_tests, append_assoc, fact_is ids f.1 rest h.0.1, fields_are ids true fs h.1, quoted_is f.0 (58 ∷ (value ++ others)) h.0.0)
