-- Searching a list, and searching the mapped list, which has f x for each element x of the list.
use Rattle.std.proofs.Common.{◌≡◌, List, [], ◌∷◌, Bool, true, false, ◌||◌, length, map, Some, suc, refl, ap, arith}
use Rattle.std.proofs.lemmas.{Bool.cases_lt, Bool.lt-ltb, Bool.le-ltb, List.length-map}
use Rattle.std.specs.{Prelude.option_map, List.list_any, List.find, List.position, List.position_or_len}

-- f x passes the test for some element x exactly if some element of the mapped list passes the test
pub list_any-map : {X Y : Type 0} (p : Y → Bool) (f : X → Y) (xs : List X) → list_any (λ x. p (f x)) xs ≡ list_any p (map f xs)
list_any-map p f [] = refl
list_any-map p f (x ∷ xs) = ap (λ b. p (f x) || b) (list_any-map p f xs)

-- let x be the first element for which f x passes the test; then f x is the first of the mapped list that passes
pub find-map : {X Y : Type 0} (p : Y → Bool) (f : X → Y) (xs : List X) → option_map f (find (λ x. p (f x)) xs) ≡ find p (map f xs)
find-map p f [] = refl
find-map p f (x ∷ xs) = grind (arith, find-map p f xs)

index-map : {X Y : Type 0} (p : Y → Bool) (f : X → Y) (xs : List X) → position_or_len (λ x. p (f x)) xs ≡ position_or_len p (map f xs)
index-map p f [] = refl
index-map p f (x ∷ xs) = rw (index-map p f xs) refl

-- the first element x for which f x passes the test has the same index as the first one of the mapped list that passes
pub position-map : {X Y : Type 0} (p : Y → Bool) (f : X → Y) (xs : List X) → position (λ x. p (f x)) xs ≡ position p (map f xs)
position-map p f xs = rw (index-map p f xs, ← length-map xs f) refl

-- mapping by f and then by g is the same as mapping by the composition of both
pub map-map : {X Y Z : Type 0} (g : Y → Z) (f : X → Y) (xs : List X) → map (λ x. g (f x)) xs ≡ map g (map f xs)
map-map g f [] = refl
map-map g f (x ∷ xs) = ap (λ zs. g (f x) ∷ zs) (map-map g f xs)

-- if the first element passes, the search returns index 0
pub position-first : {X : Type 0} (p : X → Bool) (x : X) (xs : List X) → p x ≡ true → position p (x ∷ xs) ≡ Some 0
position-first p x xs here = rw (here, lt-ltb 0 (suc (length xs)) (omega arith)) refl

-- if the first element doesn't pass, `position_or_len` returns one more than for the rest of the list
index-later : {X : Type 0} (p : X → Bool) (x : X) (xs : List X) → p x ≡ false → position_or_len p (x ∷ xs) ≡ suc (position_or_len p xs)
index-later p x xs not_here = rw not_here (omega arith)

-- if the first element doesn't pass, the index is one more than that in the rest of the list
pub position-later : {X : Type 0} (p : X → Bool) (x : X) (xs : List X) → p x ≡ false → position p (x ∷ xs) ≡ option_map suc (position p xs)
position-later p x xs not_here = grind (arith, index-later, cases_lt, lt-ltb, le-ltb)
