-- Searching a list for an element that passes a test.
use Rattle.std.proofs.Common.{◌≡◌, ℕ, suc, ◌<◌, List, [], ◌∷◌, Bool, true, ◌||◌, length, get_or, Some, refl, ap, sym, ◌∙◌, arith}
use Rattle.std.{specs.List.list_any, specs.List.find, proofs.lemmas.Bool.false≢true, proofs.lemmas.Bool.cond_both}

-- x is in the list and passes the test
pub record IsFound {X : Type 0} (p : X → Bool) (xs : List X) (x : X) : Type 0 where
  pub index : ℕ
  pub within : index < length xs
  pub there : get_or xs index x ≡ x
  pub passes : p x ≡ true

later : {X : Type 0} (p : X → Bool) (y : X) (xs : List X) (x : X) → IsFound p xs x → IsFound p (y ∷ xs) x
later p y xs x found = let lt = found.within in record { index = suc found.index; within = omega arith; there = found.there; passes = found.passes }

-- if the search finds x, x is in the list and passes the test
pub find-is : {X : Type 0} (p : X → Bool) (xs : List X) (x : X) → find p xs ≡ Some x → IsFound p xs x
find-is p [] x e = absurd cc
find-is p (y ∷ ys) x e = grind (arith, later, find-is p ys x)

-- if some element passes the test, the search finds one
pub find-some : {X : Type 0} (p : X → Bool) (xs : List X) → list_any p xs ≡ true → (x : X) × (find p xs ≡ Some x)
find-some p [] h = absurd (false≢true h)
find-some p (y ∷ ys) h =
    cond_both (p y) (Some y) (find p ys) (λ o. (x : _) × (o ≡ Some x)) (λ e. (y, refl)) (λ e. find-some p ys (ap (λ b. b || list_any p ys) (sym e) ∙ h))

-- if `list_any` is true, the element at some index of the list passes the test
pub list_any-found : {X : Type 0} (p : X → Bool) (xs : List X) → list_any p xs ≡ true → (x : X) × IsFound p xs x
list_any-found p xs h = let r = find-some p xs h in (r.0, find-is p xs r.0 r.1)

-- if two tests agree on all elements, some element passes the first exactly if some element passes the second
pub list_any-same : {X : Type 0} (p q : X → Bool) (xs : List X) → ((x : X) → p x ≡ q x) → list_any p xs ≡ list_any q xs
list_any-same p q xs same = λ i. list_any (λ x. same x i) xs
