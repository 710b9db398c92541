-- Checking each link before it is added to the rows. The rows are a list with the set of each node's neighbours.
use Rattle.std.proofs.lemmas.Bool.{Decides.nat_tests, and_parts, and_from, not-false, false≢true, lt-ltb}
use Rattle.std.proofs.Common.{◌≡◌, ℕ, ℤ, pos, ◌-◌, ◌<◌, ◌≤◌, true, not, List, length, get_or, take, map, Option, Some, None, Ok, Err, ap, subst, arith}
use Rattle.std.specs.{Prelude.is_some, Prelude.slice_index, Prelude.position, FinSet.FinSet, Ordering.nat_cmp}
use Rattle.std.proofs.lemmas.{List.take_all, List.Quantifiers.position-Some, Option.slice_get-get_or}
use Rattle.mml_ids.specs.{Search.first_from, Search.first_below, Ids.in_order, Ids.IsTable}
use Rattle.mml_ids.proofs.{GivesLemmas.map_none, IdsLemmas.id_of_rank, SearchLemmas.position-none, SearchLemmas.position-None, SearchLemmas.first_here, SearchLemmas.first_end}
use Rattle.mml_lab.specs.{declared.lab_fault.LabFault.LabFault}
use Rattle.mml_lab_file.specs.{Shape.NodeSpec, inside.Checks.rank_at, inside.Checks.lacks_rank, inside.Checks.are_near}
use Rattle.mml_lab_file.specs.Reading.{file_ids, is_linked, is_link_again, neighbours_of, ends_fault, again_fault, pass_unless}
use Rattle.mml_lab_file.proofs.{LabInLemmas.positive, LabMeaningLemmas.ranked, NeighboursLemmas.AreRows, NeighboursLemmas.has-neighbours_of, NeighboursLemmas.all_rows, LabMeaningLemmas.ends-means}
use Rattle.mml_lab.specs.declared.lab_fault.LabFault.TheVariants as fault

some_rank : (o : Option ℕ) → is_some o ≡ true → (j : ℕ) × (o ≡ Some j)
some_rank o h = grind (arith, false≢true)

-- if an integer of the file has a rank, it is the identifier of the node with this rank
rank-names : (ids : List ℕ) → IsTable ids → (z : ℤ) (j : ℕ) → rank_at ids z ≡ Some j → (j < length ids) × (z ≡ pos (slice_index ids j))
unfolding rank_at
rank-names ids table z j at = grind (arith, position-Some, positive, id_of_rank)

-- if two integers are identifiers of nodes, the nodes are neighbours in the rows exactly if a link joins them
near-linked : (ids : List ℕ) → IsTable ids → (links : List (ℤ × ℤ)) (rows : List (FinSet nat_cmp)) → AreRows ids links rows → (z w : ℤ)
    → is_some (rank_at ids z) ≡ true → is_some (rank_at ids w) ≡ true
    → are_near rows (rank_at ids z) (rank_at ids w) ≡ is_linked links z w
unfolding are_near
near-linked ids table links rows are z w some_z some_w =
    let i = some_rank (rank_at ids z) some_z in
    let j = some_rank (rank_at ids w) some_w in
    let at_i = rank-names ids table z i.0 i.1 in
    grind (arith, nat_tests, rank-names, has-neighbours_of, lt-ltb)

-- if all ends of links are nodes of the file, each of them has a rank
pub all_ranked : (nodes : List NodeSpec) → IsTable (in_order (file_ids nodes)) → (links : List (ℤ × ℤ)) → pass_unless (ends_fault nodes links) ≡ Ok tt
    → position (lacks_rank (in_order (file_ids nodes))) links ≡ None
unfolding ends_fault rank_at
all_ranked nodes table links right = position-none (lacks_rank (in_order (file_ids nodes))) links (pos 0, pos 0) (λ k lt.
    let ends = (ends-means nodes links).0 (map_none fault.LinkEnd _ (none_in _ right)) k (pos 0, pos 0) lt in
    ap not (and_from _ _ (ap is_some (ranked nodes table _ ends.0).2) (ap is_some (ranked nodes table _ ends.1).2)))
  where
    none_in : (o : Option LabFault) → pass_unless o ≡ Ok tt → o ≡ None
    none_in o h = grind arith

-- ---- the rows after each link

-- the rows have the neighbours of the first k links, and none of these links repeats an earlier one
pub record AreFresh (ids : List ℕ) (links : List (ℤ × ℤ)) (k : ℕ) (rows : List (FinSet nat_cmp)) : Type 0 where
  pub are : AreRows ids (take k links) rows
  pub fresh : first_from (is_link_again links) k (length links - k) ≡ first_below (is_link_again links) (length links)

-- the ends of link k are neighbours in the rows of the first k links exactly if link k repeats an earlier link
pub again-at : (ids : List ℕ) → IsTable ids → (links : List (ℤ × ℤ)) (k : ℕ) (rows : List (FinSet nat_cmp)) (d : ℤ × ℤ) → k < length links
    → position (lacks_rank ids) links ≡ None → AreRows ids (take k links) rows
    → are_near rows (rank_at ids (get_or links k d).0) (rank_at ids (get_or links k d).1) ≡ is_link_again links k
again-at ids table links k rows d lt ends are = grind (arith, not-false, position-None, and_parts, near-linked, slice_get-get_or)

-- if no link before k repeats an earlier one, and link k does, the error of the links is `LinkTwice k`
pub again-found : (ids : List ℕ) (links : List (ℤ × ℤ)) (k : ℕ) (rows : List (FinSet nat_cmp)) → k < length links → AreFresh ids links k rows
    → is_link_again links k ≡ true → pass_unless (again_fault links) ≡ Err (fault.LinkTwice k)
unfolding again_fault
again-found ids links k rows lt so_far again = grind (arith, first_here)

module _ (ids : List ℕ) (links : List (ℤ × ℤ)) (k : ℕ) (rows : List (FinSet nat_cmp)) where
  -- if all links were added, none of them repeats an earlier one
  pub again_none : length links ≤ k → AreFresh ids links k rows → pass_unless (again_fault links) ≡ Ok tt
  unfolding again_fault
  again_none le so_far = grind (arith, first_end)

  -- if all links were added, the rows have the neighbours of each node
  pub all_rows_are : length links ≤ k → AreFresh ids links k rows → rows ≡ map (neighbours_of ids links) ids
  all_rows_are le so_far = all_rows ids links rows (subst (λ l. AreRows ids l rows) (take_all k links le) so_far.are)
