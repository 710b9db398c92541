-- JSON arrays and objects that are made from lists.
use Rattle.std.specs.Prelude.{ℕ, List, [], ◌∷◌, map}
use Rattle.serde_json.specs.Data.{Data, array, object, Items, no_items, item, Members, no_members, member}

-- these values as the items of an array
abbrev pub items_with : List Data → Items
items_with [] = no_items
items_with (d ∷ ds) = item d (items_with ds)

-- these keys with their values as the members of an object
abbrev pub members_with : List (List ℕ × Data) → Members
members_with [] = no_members
members_with (m ∷ ms) = member m.0 m.1 (members_with ms)

-- the array of the values `f x`, one for each x of the list
abbrev pub array_of : {A : Type 0} → (A → Data) → List A → Data
array_of f xs = array (items_with (map f xs))

-- the object with these keys, in this order
abbrev pub object_with : List (List ℕ × Data) → Data
object_with ms = object (members_with ms)
