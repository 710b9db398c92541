-- Texts with commas between them, appended one after another.
-- The rank of a node is its index when the identifiers of all nodes are in rising order.
use Rattle.std.proofs.lemmas.{Bool.Decides.nat_tests, Grind.common_steps, Grind.flat_map-append, List.take_more, List.map-append}
use Rattle.std.proofs.Common.{◌≡◌, ℕ, ◌+◌, ◌<◌, List, [], ◌∷◌, ◌++◌, length, map, take, get_or, true, false, sym, ap, ◌∙◌, refl, append-nil, arith, append_assoc}
use Rattle.std.specs.{Ordering.nat_cmp, FinSet.FinSet}
use Rattle.mml_policy.proofs.NearLemmas.{passing_with, passing_without}
use Rattle.mml_codec.specs.Facts.{node_text, members, separated}
use Rattle.std.specs.FinSet as set

-- the comma before the next text, or nothing if no text comes before it
abbrev pub comma_after : List (List ℕ) → List ℕ
comma_after [] = []
comma_after (x ∷ xs) = 44 ∷ []

comma_after-more : (xs : List (List ℕ)) (x : List ℕ) → comma_after (xs ++ x ∷ []) ≡ 44 ∷ []
comma_after-more [] x = refl
comma_after-more (y ∷ ys) x = refl

separated-more : (xs : List (List ℕ)) (x : List ℕ) → separated (xs ++ x ∷ []) ≡ separated xs ++ (comma_after xs ++ x)
separated-more xs x = grind (arith, nat_tests, append-nil, flat_map-append, append_assoc)

-- the identifiers of the set's ranks below n, as texts
abbrev pub texts : List ℕ → FinSet nat_cmp → ℕ → List (List ℕ)
texts ids s n = map (node_text ids) (members n s)

-- if the rank n is in the set, a comma comes before the text after it
pub comma_with : (ids : List ℕ) (s : FinSet nat_cmp) (n i : ℕ) → i ≡ n → set.contains s i ≡ true → 44 ∷ [] ≡ comma_after (texts ids s (n + 1))
comma_with ids s n i e h = grind (arith, nat_tests, passing_with, comma_after-more)

-- if the rank n isn't in the set, the comma before the next text stays the same
pub comma_without : (ids : List ℕ) (s : FinSet nat_cmp) (n i : ℕ) (comma : List ℕ) → i ≡ n → set.contains s i ≡ false → comma ≡ comma_after (texts ids s n)
    → comma ≡ comma_after (texts ids s (n + 1))
comma_without ids s n i comma e h so_far = so_far ∙ sym (ap comma_after (passing_without (set.contains s) (node_text ids) n (ap (set.contains s) (sym e) ∙ h)))

-- if the rank n is in the set, its identifier is appended, with a comma before it unless it is the first
pub text_with : (ids : List ℕ) (s : FinSet nat_cmp) (n i : ℕ) (start held put comma : List ℕ) → i ≡ n → set.contains s i ≡ true
    → comma ≡ comma_after (texts ids s n) → held ≡ start ++ separated (texts ids s n) → put ≡ held ++ (comma ++ node_text ids i)
    → put ≡ start ++ separated (texts ids s (n + 1))
text_with ids s n i start held put comma e h comma_is so_far more = grind (arith, nat_tests, append_assoc, passing_with, separated-more)

-- if the rank n isn't in the set, nothing is appended
pub text_without : (ids : List ℕ) (s : FinSet nat_cmp) (n i : ℕ) (start held : List ℕ) → i ≡ n → set.contains s i ≡ false
    → held ≡ start ++ separated (texts ids s n) → held ≡ start ++ separated (texts ids s (n + 1))
text_without ids s n i start held e h so_far = grind (arith, nat_tests, passing_without)

-- after the first i + 1 elements of a list, a comma comes before the next text
pub comma_more : {X : Type 0} (f : X → List ℕ) (xs : List X) (i : ℕ) (d : X) → i < length xs → 44 ∷ [] ≡ comma_after (map f (take (i + 1) xs))
comma_more f xs i d h = grind (arith, nat_tests, take_more, map-append, comma_after-more)

-- if the text of element i is appended, with a comma before it unless it is the first, the result has the texts of the
-- first i + 1 elements
pub text_more : {X : Type 0} (f : X → List ℕ) (xs : List X) (i : ℕ) (d : X) (start held put comma : List ℕ) → i < length xs
    → comma ≡ comma_after (map f (take i xs)) → held ≡ start ++ separated (map f (take i xs)) → put ≡ held ++ (comma ++ f (get_or xs i d))
    → put ≡ start ++ separated (map f (take (i + 1) xs))
text_more f xs i d start held put comma h comma_is so_far more = grind (arith, common_steps, nat_tests, append_assoc, take_more, map-append, separated-more)

-- appending `comma` and then `text` is the same as appending both at once
pub with_comma_put : (held comma now taken text : List ℕ) → now ≡ taken ++ comma → taken ++ comma ≡ held ++ comma → now ++ text ≡ held ++ (comma ++ text)
with_comma_put held comma now taken text is same = ap (λ t. t ++ text) (is ∙ same) ∙ append_assoc held comma text
