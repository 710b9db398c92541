-- `in_order` keeps the numbers of a list, and puts no number before a smaller one.
use Rattle.std.proofs.Common.{◌≡◌, ℕ, suc, ◌+◌, true, false, cond, ltb, List, [], ◌∷◌, refl, ap, sym, subst, arith}
use Rattle.std.specs.{Prelude.IsPermutation, List.insert, List.prefix_len, List.Sorted.IsNonDecreasing}
use Rattle.std.proofs.lemmas.{Bool.ltb-true, Bool.ltb-false, List.Sums.prefix_len_passes, List.Sums.prefix_len_stops, List.Sums.prefix_len-le-length}
use Rattle.std.proofs.lemmas.List.Sorted.{IsPermutation-refl, IsPermutation-cons, IsPermutation-trans, IsPermutation-insert, IsNonDecreasingBy-short, IsNonDecreasingBy-insert}
use Rattle.mml_ids.specs.Ids.{put_in_order, in_order}

-- how many numbers at the front of the list are less than n
abbrev lesser : ℕ → List ℕ → ℕ
lesser n ks = prefix_len (λ k. ltb k n) ks

put-is : (n : ℕ) (ks : List ℕ) → put_in_order n ks ≡ insert ks (lesser n ks) n
put-is n [] = refl
put-is n (k ∷ ks) = elim (ltb k n) as (λ b. cond b (k ∷ put_in_order n ks) (n ∷ k ∷ ks) ≡ insert (k ∷ ks) (cond b (1 + lesser n ks) 0) n) [
  | true ↦ let e : 1 + lesser n ks ≡ suc (lesser n ks) = omega arith in rw e (ap (λ xs. k ∷ xs) (put-is n ks))
  | false ↦ refl
]

-- `in_order` returns a list with the same elements in another order
pub in_order-moves : (ns : List ℕ) → IsPermutation ns (in_order ns)
unfolding in_order
in_order-moves [] = IsPermutation-refl []
in_order-moves (n ∷ ns) =
    IsPermutation-trans (n ∷ ns) (n ∷ in_order ns) _ (IsPermutation-cons n ns (in_order ns) (in_order-moves ns))
    (subst (IsPermutation (n ∷ in_order ns)) (sym (put-is n (in_order ns))) (IsPermutation-insert (in_order ns) (lesser n (in_order ns)) n))

insert-climbs : (n : ℕ) (ks : List ℕ) → IsNonDecreasing ks → IsNonDecreasing (insert ks (lesser n ks) n)
insert-climbs n ks climbs =
    IsNonDecreasingBy-insert (λ k. k) ks (lesser n ks) n climbs (prefix_len-le-length (λ k. ltb k n) ks)
    (λ k d l. omega (arith, ltb-true _ _ (prefix_len_passes (λ k. ltb k n) ks k d l)))
    (λ k d le l. omega (arith, climbs (lesser n ks) k d le l, ltb-false _ _ (prefix_len_stops (λ k. ltb k n) ks d (omega arith))))

-- a list that `in_order` returns is non-decreasing, as the standard library defines it
pub in_order-climbs : (ns : List ℕ) → IsNonDecreasing (in_order ns)
unfolding in_order
in_order-climbs [] = IsNonDecreasingBy-short (λ n. n) [] (omega arith)
in_order-climbs (n ∷ ns) = subst IsNonDecreasing (sym (put-is n (in_order ns))) (insert-climbs n (in_order ns) (in_order-climbs ns))
