-- The rows of neighbours, one for each node, while links are added to them one after another.
use Rattle.std.proofs.lemmas.{Bool.Decides.nat_tests, Bool.and_right, Bool.cases_lt, Bool.ne_eqb, Bool.lt-ltb, Bool.le-ltb, Grind.common_steps, List.Folds.list_any_more}
use Rattle.std.proofs.lemmas.{List.Quantifiers.position-Some, List.get_or_default, List.get_or-replicate, List.length-replicate, List.get_or-map, List.length-map, List.same_lists}
use Rattle.std.proofs.Common.{◌≡◌, ℕ, ℤ, pos, negsuc, ◌+◌, ◌<◌, ◌&&◌, ◌||◌, ltb, List, [], length, get_or, take, map, sym, ◌∙◌, arith, rules}
use Rattle.std.specs.{Prelude.slice_index, Prelude.replicate, Ordering.nat_cmp, Ordering.int_eq}
use Rattle.mml_ids.specs.{Ids.rank_in, Ids.IsTable, inside.WordsLemmas.has_empty, inside.WordsLemmas.has-those_below, inside.WordsLemmas.same_ranks}
use Rattle.mml_ids.proofs.{IdsLemmas.rank_of_id, IdsLemmas.id_of_rank, SearchLemmas.same_bool}
use Rattle.mml_rules.specs.{Configuration.holds, Network.neighbours_at}
use Rattle.mml_rules.proofs.ConfigurationLemmas.{holds-true, holds-from}
use Rattle.mml_lab_file.specs.Reading.{number_of, joins, is_linked, neighbours_of}
use Rattle.mml_lab.proofs.RowLemmas.{Rows}
use Rattle.std.specs.FinSet as sets

-- an end of a link is the identifier of the node with rank i exactly if the rank of the end is i
pub end_at : (ids : List ℕ) → IsTable ids → (z : ℤ) (i : ℕ) → i < length ids → int_eq z (pos (slice_index ids i)) ≡ holds (rank_in ids (number_of z)) i
end_at ids table z i lt = search (rules, same_bool, pos, holds-from, rank_of_id, get_or_default, id_of_rank, holds-true, negsuc)

pub joins_at : (ids : List ℕ) → IsTable ids → (link : ℤ × ℤ) (i q : ℕ) → i < length ids → q < length ids
    → joins (pos (slice_index ids i)) (pos (slice_index ids q)) link
    ≡ ((holds (rank_in ids (number_of link.0)) i && holds (rank_in ids (number_of link.1)) q)
    || (holds (rank_in ids (number_of link.1)) i && holds (rank_in ids (number_of link.0)) q))
joins_at ids table link i q in_i in_q = grind (arith, end_at)

-- a rank is among a node's neighbours exactly if a link joins the identifiers of both
pub has-neighbours_of : (ids : List ℕ) (links : List (ℤ × ℤ)) (id q : ℕ)
    → sets.contains (neighbours_of ids links id) q ≡ (ltb q (length ids) && is_linked links (pos id) (pos (slice_index ids q)))
unfolding neighbours_of
has-neighbours_of ids links id q = has-those_below (length ids) (λ rank. is_linked links (pos id) (pos (slice_index ids rank))) q

-- each row has the ranks of the nodes that a link joins to the row's node
pub record AreRows (ids : List ℕ) (links : List (ℤ × ℤ)) (rows : Rows) : Type 0 where
  pub size : length rows ≡ length ids
  pub members : (i q : ℕ) → i < length ids → sets.contains (neighbours_at rows i) q ≡ sets.contains (neighbours_of ids links (slice_index ids i)) q

-- without links, empty rows have the neighbours of each node
pub no_rows : (ids : List ℕ) (rows : Rows) → rows ≡ replicate (length ids) (sets.empty {R = nat_cmp}) → AreRows ids [] rows
no_rows ids rows is = grind (arith, length-replicate, get_or-replicate, has_empty, has-neighbours_of, and_right)

-- if each end of the next link is added to the row of the other end, the rows have the neighbours of one link more
pub one_more : (ids : List ℕ) → IsTable ids → (links : List (ℤ × ℤ)) (k : ℕ) (link : ℤ × ℤ) (rows new : Rows) → k < length links → link ≡ get_or links k link
    → length new ≡ length rows
    → ((i q : ℕ) → sets.contains (neighbours_at new i) q ≡ (sets.contains (neighbours_at rows i) q
    || ((holds (rank_in ids (number_of link.0)) i && holds (rank_in ids (number_of link.1)) q)
    || (holds (rank_in ids (number_of link.1)) i && holds (rank_in ids (number_of link.0)) q))))
    → AreRows ids (take k links) rows → AreRows ids (take (k + 1) links) new
one_more ids table links k link rows new lt is long step so_far =
    grind (arith, common_steps, nat_tests, has-neighbours_of, cases_lt, position-Some, ne_eqb, and_right, lt-ltb, list_any_more, joins_at, le-ltb)

-- rows that have the neighbours of each node are the list of `neighbours_of` for all identifiers
pub all_rows : (ids : List ℕ) (links : List (ℤ × ℤ)) (rows : Rows) → AreRows ids links rows → rows ≡ map (neighbours_of ids links) ids
all_rows ids links rows are = same_lists rows (map (neighbours_of ids links) ids) (are.size ∙ sym (length-map ids (neighbours_of ids links)))
    (λ i d lt. let in_i : i < length ids = omega (arith, are.size) in
    get_or_default rows i d sets.empty lt
    ∙ same_ranks _ _ (λ q. are.members i q in_i)
    ∙ sym (get_or-map (neighbours_of ids links) ids i 0 d in_i))
