-- The connections that came and were served so far, and then one more.
use Rattle.std.proofs.lemmas.{Bool.Decides.nat_tests, List.Elements.All-drop, List.map-append, List.length-map}
use Rattle.std.proofs.Common.{◌≡◌, ◌≤◌, ℕ, ◌+◌, List, [], ◌∷◌, ◌++◌, append_assoc, All, drop, length, length-append, length-drop, arith, Option}
use Rattle.mml_lab.specs.Labs.{LabValue}
use Rattle.mml_window.specs.Windows.{WindowValue, window}
use Rattle.mml_serving.specs.{declared.connection.Connection.Connection, declared.connection.EndedSession.EndedSession, Arriving.Takes}
use Rattle.mml_serving.specs.Serving.{Each, Numbered, ServesAll, ServesWindows}

-- if connections were taken, and then others, the first ones with the others after them were taken
pub taken_on : {C : Type 0} (a b c : Option (List C)) (xs ys : List C) → Takes a b xs → Takes b c ys → Takes a c (xs ++ ys)
taken_on a b c xs ys h k = grind (arith, append_assoc)

-- one more connection, with the next number, keeps the connections numbered in order
pub numbered_more : {R W : Type 0} (n : ℕ) (cs : List (Connection R W)) (c : Connection R W) → Numbered n cs → c.number ≡ n + length cs
    → Numbered n (cs ++ c ∷ [])
numbered_more n [] c so_far at = grind arith
numbered_more n (x ∷ xs) c so_far at = grind (arith, numbered_more (n + 1) xs c)

-- the rules by which what holds of the connections that came still holds with one more
pub ruleset one_more = (nat_tests, numbered_more, taken_on, map-append, length-map)

-- if P is true at each index of three lists, and for one more element of each, it is true at each index of the longer
-- lists
pub each_more : {A B C : Type 0} (P : A → B → C → Type 0) (xs : List A) (ys : List B) (zs : List C) (x : A) (y : B) (z : C) → Each P xs ys zs → P x y z
    → Each P (xs ++ x ∷ []) (ys ++ y ∷ []) (zs ++ z ∷ [])
each_more P (a ∷ us) (b ∷ vs) (c ∷ ws) x y z so_far one = (so_far.0, each_more P us vs ws x y z so_far.1 one)
each_more P _ _ _ x y z so_far one = grind (arith, nat_tests)

-- if P is true at each index of three lists, the third one is as long as the first one
pub each_long : {A B C : Type 0} (P : A → B → C → Type 0) (xs : List A) (ys : List B) (zs : List C) → Each P xs ys zs → length zs ≡ length xs
each_long P (a ∷ us) (b ∷ vs) (c ∷ ws) h = omega (arith, each_long P us vs ws h.1)
each_long P _ _ _ h = grind (arith, nat_tests)

-- if the connections were served through the first windows, and the others are as they were at the beginning,
-- `ServesWindows` holds
pub serves_windows : {R W : Type 0} {lab : LabValue} {remaining : R → Option (List ℕ)} {contents : W → Option (List ℕ)}
    {to_come : Option (List (R × W))} {count : ℕ} {sessions : List (EndedSession R W)} {used : List WindowValue}
    (unused fresh : List WindowValue) (n : ℕ) → ServesAll lab remaining contents to_come count sessions used → unused ≡ drop n fresh
    → n ≡ count → length fresh ≡ lab.sessions → count ≤ lab.sessions → All (λ w. w ≡ window [] []) fresh
    → ServesWindows lab remaining contents to_come count sessions (used ++ unused)
serves_windows unused fresh n each rest so_many whole few idle =
    grind (arith, nat_tests, each_long _ _ _ _ each.served, length-append, length-drop, All-drop (λ w. w ≡ window [] []) n fresh idle)
