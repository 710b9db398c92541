-- Lists of identifiers, and the ranks in a table.
use Rattle.std.proofs.Common.{◌≡◌, ◌≢◌, ℕ, ◌<◌, ◌≤◌, false, not, eqb, List, length, get_or, Some, None, arith}
use Rattle.std.specs.{List.list_any}
use Rattle.std.proofs.lemmas.Bool.{cases_lt, eq-eqb, ne_eqb, eqb-true, eqb-false, lt-ltb, ltb-false}
use Rattle.std.proofs.lemmas.List.{get_or_default, Quantifiers.position-Some, Sums.position_or_len_is, Sums.fails_before_first, Folds.list_any_none}
use Rattle.mml_ids.specs.{declared.TheConstants.MAX_NODES, Search.first_below, Ids.is_id, Ids.id_fault, Ids.is_again_at, Ids.rank_in, Ids.IsTable}
use Rattle.mml_ids.proofs.GivesLemmas.{both_none, if_none, map_none}

position_at : (id : ℕ) (ids : List ℕ) (k : ℕ) → k < length ids → get_or ids k 0 ≡ id → ((i : ℕ) → i < k → get_or ids i 0 ≢ id) → rank_in ids id ≡ Some k
position_at id ids k l e before = grind (arith, position_or_len_is, ne_eqb, eq-eqb, lt-ltb)

-- the rank of the identifier at index k of a table is k
pub rank_of_id : (ids : List ℕ) (k id : ℕ) → IsTable ids → k < length ids → id ≡ get_or ids k id → rank_in ids id ≡ Some k
rank_of_id ids k id t l e = grind (arith, get_or_default, position_at)

-- if the rank of an identifier is k, this identifier is at index k of the table
pub id_of_rank : (ids : List ℕ) (id k : ℕ) → rank_in ids id ≡ Some k → get_or ids k 0 ≡ id
id_of_rank ids id k e = eqb-true (get_or ids k 0) id (position-Some (λ n. eqb n id) ids k 0 e).1

-- a list of identifiers without an error: 1 to 256 numbers, all of them identifiers, and no two of them equal
pub record IsSound (ns : List ℕ) : Type 0 where
  pub some : 0 < length ns
  pub few : length ns ≤ MAX_NODES
  pub valid : list_any (λ n. not (is_id n)) ns ≡ false
  pub differ : first_below (is_again_at ns) (length ns) ≡ None

-- if `id_fault` finds no error, the list is sound: it is a list of 1 to 256 different identifiers
pub sound : (ns : List ℕ) → id_fault ns ≡ None → IsSound ns
sound ns h = grind (arith, both_none, eqb-false, if_none, ltb-false, cases_lt, lt-ltb, list_any_none, fails_before_first, map_none)
