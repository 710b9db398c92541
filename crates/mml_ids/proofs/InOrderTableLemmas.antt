-- If a list of identifiers has no error, `in_order` makes a table of it.
use Rattle.std.proofs.Common.{◌≡◌, ℕ, ◌<◌, ◌≤◌, Bool, false, not, eqb, List, length, get_or, take, None, sym, subst, ◌∙◌, arith}
use Rattle.std.specs.{Prelude.IsPermutation, Prelude.IsSorted, List.list_any, List.Sorted.IsNonDecreasing, List.Sorted.IsStrictlySortedBy, Ordering.nat_cmp, Cmp.nat_cmp_total, Cmp.nat_eq_equiv}
use Rattle.std.proofs.lemmas.{Bool.cases_Bool, Bool.ltb-true, Bool.leb-true, Bool.and_parts, Bool.not-false, List.get_or_default, List.get_or-take, List.length-take, List.Folds.list_any_at}
use Rattle.std.proofs.lemmas.List.Sorted.{list_any-IsPermutation, length_permutation, IsNonDecreasingBy-from_sort}
use Rattle.std.proofs.lemmas.Map.Keys.{IsDistinct-IsPermutation, IsDistinct-from_apart, IsStrictlyIncreasing-from_distinct, sorted_from_strictly_increasing, below_from_sorted}
use Rattle.std.proofs.lemmas.Map.Lookups.{btree_set_from_contains, exact_unsigned}
use Rattle.mml_ids.specs.{declared.TheConstants.MAX_ID, Ids.is_id, Ids.id_fault, Ids.is_again_at, Ids.in_order, Ids.IsTable}
use Rattle.mml_ids.proofs.{InOrderLemmas.in_order-moves, InOrderLemmas.in_order-climbs, IdsLemmas.sound, SearchLemmas.none-is}

passes : (p : ℕ → Bool) (xs : List ℕ) (i : ℕ) → list_any p xs ≡ false → i < length xs → p (get_or xs i 0) ≡ false
passes p xs i none l = grind (arith, list_any_at, cases_Bool)

within_limits : (ns : List ℕ) (i : ℕ) → list_any (λ n. not (is_id n)) ns ≡ false → i < length ns → (0 < get_or ns i 0) × (get_or ns i 0 ≤ MAX_ID)
within_limits ns i valid l = grind (arith, passes (λ n. not (is_id n)) ns i valid l, and_parts, not-false, ltb-true, leb-true)

-- if a list of identifiers has no error, its numbers in non-decreasing order rise
rises : (ns xs : List ℕ) → id_fault ns ≡ None → IsPermutation ns xs → IsNonDecreasing xs → IsStrictlySortedBy nat_cmp xs
rises ns xs none moved climbs =
    sorted_from_strictly_increasing xs (IsStrictlyIncreasing-from_distinct xs climbs
    (IsDistinct-IsPermutation eqb nat_eq_equiv.symm ns xs moved (IsDistinct-from_apart eqb ns apart)))
  where
    apart : (i j d : ℕ) → i < j → j < length ns → eqb (get_or ns i d) (get_or ns j d) ≡ false
    apart i j d less l =
        let before = passes (λ n. eqb n (get_or ns j 0)) (take j ns) i (none-is (is_again_at ns) (length ns) (sound ns none).differ j l) in
        grind (arith, before, length-take, get_or-take, get_or_default)

-- if a list of identifiers has no error, `in_order` makes a table of it: 1 to 256 identifiers, each below the next
pub in_order-table : (ns : List ℕ) → id_fault ns ≡ None → IsTable (in_order ns)
in_order-table ns none =
    let right = sound ns none in
    let same = length_permutation ns (in_order ns) (in_order-moves ns) in
    let all = sym (list_any-IsPermutation (λ n. not (is_id n)) ns (in_order ns) (in_order-moves ns)) ∙ right.valid in
    record {
      some = omega arith;
      few = omega arith;
      rising = λ i j less l. below_from_sorted (in_order ns) i j 0 (rises ns (in_order ns) none (in_order-moves ns) (in_order-climbs ns)) less l;
      positive = λ i l. (within_limits (in_order ns) i all l).0;
      within = λ i l. (within_limits (in_order ns) i all l).1;
    }

-- if a list of identifiers has no error, its numbers in non-decreasing order are those that `in_order` returns, a table
pub sorted_is : (ns was sorted : List ℕ) → id_fault ns ≡ None → was ≡ ns → IsPermutation was sorted → IsSorted nat_cmp sorted
    → (sorted ≡ in_order ns) × IsTable sorted
sorted_is ns was sorted none same moves sort =
    let moved = subst (λ (xs : List ℕ). IsPermutation xs sorted) same moves in
    let up = IsNonDecreasingBy-from_sort (λ n. n) sorted sort in
    let is = btree_set_from_contains nat_cmp_total (record { keys = sorted }) (record { keys = in_order ns }) (rises ns sorted none moved up)
    (rises ns (in_order ns) none (in_order-moves ns) (in_order-climbs ns))
    (λ q. sym (list_any-IsPermutation _ ns sorted moved) ∙ list_any-IsPermutation _ ns (in_order ns) (in_order-moves ns)) exact_unsigned in
    (is, subst IsTable (sym is) (in_order-table ns none))
