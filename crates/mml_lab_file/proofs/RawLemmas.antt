-- The tests of a lab file have the same results on the program's values as on their descriptions in contracts. In these
-- descriptions, a text is the list of its bytes.
use Rattle.std.proofs.Common.{◌≡◌, ℕ, List, [], ◌∷◌, map, refl, String, Global, string_bytes, arith, sym, Bool}
use Rattle.std.specs.{Prelude.option_map, Prelude.is_some, Prelude.bytes_eq, List.list_any, List.find, Map.lookup, Prelude.position, Map.keys_of}
use Rattle.mml_lab.specs.{AccountView.entry_account, Rosters.has_name}
use Rattle.std.proofs.lemmas.List.{length-map}
use Rattle.mml_ids.proofs.MapLemmas.{list_any-map, position-map, find-map, map-map}
use Rattle.indexmap.proofs.CallerLemmas.{insert_entry-new}
use Rattle.mml_lab.proofs.StudentNamedLemmas.{Entry, position_same}

-- some element of a mapped list passes the test exactly if the test after the map passes for some element
pub list_any_of_map : {X Y : Type 0} (p : Y → Bool) (f : X → Y) (xs : List X) → list_any p (map f xs) ≡ list_any (λ x. p (f x)) xs
list_any_of_map p f xs = sym (list_any-map p f xs)

-- the first element of a mapped list that passes the test has the index of the first one for which the test after the map passes
pub position_of_map : {X Y : Type 0} (p : Y → Bool) (f : X → Y) (xs : List X) → position p (map f xs) ≡ position (λ x. p (f x)) xs
position_of_map p f xs = sym (position-map p f xs)

-- the first element of a mapped list that passes the test is the mapped one for which the test after the map passes first
pub find_of_map : {X Y : Type 0} (p : Y → Bool) (f : X → Y) (xs : List X) → find p (map f xs) ≡ option_map f (find (λ x. p (f x)) xs)
find_of_map p f xs = sym (find-map p f xs)

-- mapping twice is mapping by the composition
pub map_of_map : {X Y Z : Type 0} (g : Y → Z) (f : X → Y) (xs : List X) → map g (map f xs) ≡ map (λ x. g (f x)) xs
map_of_map g f xs = sym (map-map g f xs)

-- the map of students finds a name at the index of the first student who has it
pub student_at : (name : List ℕ) (entries : List Entry)
    → position (has_name name) (map entry_account entries) ≡ position (λ k. bytes_eq name (string_bytes k)) (keys_of entries)
student_at name entries = sym (position_same name entries)

-- the map of students has a name exactly if some student has it
pub some_lookup : (name : List ℕ) (entries : List (String Global × String Global))
    → list_any (has_name name) (map entry_account entries) ≡ is_some (lookup (λ k. bytes_eq name (string_bytes k)) entries)
some_lookup name [] = refl
some_lookup name (e ∷ es) = grind (arith, string_bytes, some_lookup name es)

-- an entry with a new key goes to the end of a map
pub ruleset new_entries = (insert_entry-new)

-- a mapped list is as long as the list
pub ruleset mapped_lengths = (length-map)
