-- The rows with the nodes that each student owns, while nodes are added to them one after another.
use Rattle.std.proofs.Common.{◌≡◌, ℕ, ◌+◌, ◌<◌, ◌≤◌, Bool, false, ◌&&◌, ◌||◌, eqb, ltb, List, [], length, get_or, set, take, ◌⊎◌, sym, ap, ◌∙◌, arith, All}
use Rattle.std.specs.{Prelude.replicate, List.list_any, Ordering.nat_cmp, FinSet.FinSet}
use Rattle.std.proofs.lemmas.Bool.{cases_lt, cases_eq, eq-eqb, ne_eqb, eqb-true, lt-ltb, le-ltb}
use Rattle.std.proofs.lemmas.List.{get_or_past, get_or-replicate, length-replicate, Folds.list_any_more, Folds.list_any_none}
use Rattle.mml_ids.specs.inside.WordsLemmas.{has_empty}
use Rattle.mml_ids.proofs.SearchLemmas.{same_bool}
use Rattle.mml_lab.specs.inside.Owned.{row_at, is_owner, AreOwned}
use Rattle.mml_lab.proofs.RowLemmas.{Rows, inserted}
use Rattle.std.specs.FinSet as sets

or_false : (b : Bool) → (b || false) ≡ b
or_false b = grind arith

-- if the node is in the rows of its first k owners, and is added to that of the next owner, it is in the rows of its
-- first k + 1 owners
pub one_owner : (old rows rows' : Rows) (node index k d : ℕ) (owners : List ℕ) (row new : FinSet nat_cmp) → index < length rows → k < length owners
    → index ≡ get_or owners k d → row ≡ get_or rows index row → new ≡ sets.insert row node → rows' ≡ set rows index new
    → ((s i : ℕ) → sets.contains (row_at rows s) i ≡ (sets.contains (row_at old s) i || (eqb i node && list_any (λ o. eqb o s) (take k owners))))
    → (s i : ℕ) → sets.contains (row_at rows' s) i ≡ (sets.contains (row_at old s) i || (eqb i node && list_any (λ o. eqb o s) (take (k + 1) owners)))
one_owner old rows rows' node index k d owners row new within at here is_row is_new are before s i =
    ap (λ r. sets.contains (row_at r s) i) are ∙ inserted rows index node row new within is_row is_new s i
    ∙ (λ t. before s i t || (eqb index s && turned node i t))
    ∙ joined (sets.contains (row_at old s) i) (eqb i node) (list_any (λ o. eqb o s) (take k owners)) (eqb index s)
    ∙ ap (λ b. sets.contains (row_at old s) i || (eqb i node && b))
    ((λ t. list_any (λ o. eqb o s) (take k owners) || eqb (here t) s) ∙ sym (list_any_more (λ o. eqb o s) owners k d at))
  where
    joined : (a e l p : Bool) → ((a || (e && l)) || (p && e)) ≡ (a || (e && (l || p)))
    joined a e l p = grind arith

    turned : (x y : ℕ) → eqb x y ≡ eqb y x
    turned x y = same_bool (eqb x y) (eqb y x) (λ h. eq-eqb y x (sym (eqb-true x y h))) (λ h. eq-eqb x y (sym (eqb-true y x h)))

-- empty rows contain the nodes below rank 0, since there are none
pub no_nodes : (owners : List (List ℕ)) (n : ℕ) (rows : Rows) → rows ≡ replicate n (sets.empty {R = nat_cmp}) → (s i : ℕ)
    → sets.contains (row_at rows s) i ≡ (ltb i 0 && is_owner owners s i)
no_nodes owners n rows are s i = grind (arith, cases_lt, has_empty, le-ltb, get_or-replicate, get_or_past, length-replicate)

-- if the rows contain the nodes below rank k, and node k is added for its owners, they contain the nodes below rank k +
-- 1
pub one_node : (owners : List (List ℕ)) (k : ℕ) (rows rows' : Rows) (here : List ℕ) → here ≡ get_or owners k []
    → ((s i : ℕ) → sets.contains (row_at rows' s) i ≡ (sets.contains (row_at rows s) i || (eqb i k && list_any (λ o. eqb o s) here)))
    → ((s i : ℕ) → sets.contains (row_at rows s) i ≡ (ltb i k && is_owner owners s i))
    → (s i : ℕ) → sets.contains (row_at rows' s) i ≡ (ltb i (k + 1) && is_owner owners s i)
one_node owners k rows rows' here is more before s i = grind (arith, cases_eq, eq-eqb, le-ltb, lt-ltb, cases_lt, ne_eqb, or_false)

-- if the rows contain all nodes, they are the sets of the nodes that each student owns
pub all_nodes : (students n : ℕ) (owners : List (List ℕ)) (rows : Rows) → length owners ≤ n → length rows ≡ students + 1
    → ((s i : ℕ) → sets.contains (row_at rows s) i ≡ (ltb i n && is_owner owners s i)) → AreOwned students owners rows
all_nodes students n owners rows end count each = grind (arith, cases_lt, lt-ltb, le-ltb, get_or_past)

-- the row of student s, or the last row if there is no such student, contains the nodes that s owns
pub owned_by : (students s index i : ℕ) (owners : List (List ℕ)) (rows : Rows) → AreOwned students owners rows → All (All (λ o. o < students)) owners
    → ((s ≤ students) × (index ≡ s)) ⊎ ((students ≤ s) × (index ≡ students)) → sets.contains (row_at rows index) i ≡ is_owner owners s i
owned_by students s index i owners rows are known at = grind (arith, cases_lt, list_any_none, ne_eqb, get_or_past)
