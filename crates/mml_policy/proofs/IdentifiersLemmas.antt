-- The identifiers of nodes are names that are in the order of the ranks.
use Rattle.std.proofs.Common.{◌≡◌, ℕ, ◌<◌, ◌==◌, true, List, length, Option, None, Some, slice_index, refl, arith}
use Rattle.std.proofs.lemmas.{List.get_or_default, List.Quantifiers.position-Some}
use Rattle.mml_ids.specs.Ids.{IsTable, rank_in}
use Rattle.mml_ids.proofs.IdsLemmas.{rank_of_id, id_of_rank}
use Rattle.mml_rules.specs.{Configuration.Configuration, Naming.IsRenamed, UnderNames.IsNoName, UnderNames.IsEmptyElsewhere}
use Rattle.mml_policy.specs.Identifiers.{are_linked, with_identifiers}

module _ (ids : List ℕ) (c : Configuration) (table : IsTable ids) (nodes : c.size ≡ length ids) where
  rank_of : (i : ℕ) → i < c.size → rank_in ids (slice_index ids i) ≡ Some i
  rank_of i l = rank_of_id ids i (slice_index ids i) table (omega (arith, l, nodes)) (get_or_default ids i 0 (slice_index ids i) (omega (arith, l, nodes)))

  rank_is : (x j : ℕ) → rank_in ids x ≡ Some j → (j < c.size) × (slice_index ids j ≡ x)
  rank_is x j e = (let there = (position-Some (λ n. n == x) ids j 0 e).0 in omega (arith, there, nodes), id_of_rank ids x j e)

  named : (x y : ℕ) (a b : Option ℕ) → rank_in ids y ≡ b → are_linked c a b ≡ true → (j : ℕ) × (j < c.size) × (slice_index ids j ≡ y)
  named x y (Some i) (Some j) e h = let at = rank_is y j e in (j, at.0, at.1)
  named x y _ _ e h = absurd cc

  pub identifiers_rename : IsRenamed (slice_index ids) c (with_identifiers ids c)
  identifiers_rename = record {
    rising = λ i j up l. table.rising i j up (omega (arith, l, nodes));
    within = λ i l. let most = table.within i (omega (arith, l, nodes)) in omega (arith, most);
    links = λ i j k l. rw (rank_of i k, rank_of j l) refl;
    named = λ x y h. named x y (rank_in ids x) (rank_in ids y) refl h;
    p = λ i l. rw (rank_of i l) refl;
    m = λ i l. rw (rank_of i l) refl;
  }

  no_rank : (x : ℕ) → IsNoName (slice_index ids) c.size x → rank_in ids x ≡ None
  no_rank x none = grind (arith, λ (j : ℕ) (e : rank_in ids x ≡ Some j). none j (rank_is x j e).0 (rank_is x j e).1)

  pub empty_elsewhere : IsEmptyElsewhere (slice_index ids) c (with_identifiers ids c)
  empty_elsewhere = grind (arith, no_rank)
