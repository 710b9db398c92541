-- Adding a neighbour to one row of a list that has a row, the set of neighbours, for each node.
use Rattle.std.proofs.lemmas.{Bool.cases_eq, Bool.eq-eqb, Bool.ne_eqb, Bool.eqb-true, List.get_or-set_same, List.get_or-set_other, List.get_or_default}
use Rattle.std.proofs.Common.{◌≡◌, ℕ, ◌<◌, ◌&&◌, ◌||◌, eqb, List, [], length, get_or, set, arith}
use Rattle.std.specs.{Ordering.nat_cmp, FinSet.FinSet}
use Rattle.mml_ids.specs.{inside.WordsLemmas.has_insert}
use Rattle.mml_ids.proofs.{SearchLemmas.same_bool}
use Rattle.mml_rules.specs.{Network.neighbours_at}
use Rattle.std.specs.FinSet as sets

abbrev pub Rows : Type 0
Rows = List (FinSet nat_cmp)

-- after b is added to row a, row a has b in addition to its members, and all other rows are as before
pub inserted : (rows : Rows) (a b : ℕ) (old new : FinSet nat_cmp) → a < length rows → old ≡ get_or rows a old → new ≡ sets.insert old b → (i q : ℕ)
    → sets.contains (neighbours_at (set rows a new) i) q ≡ (sets.contains (neighbours_at rows i) q || (eqb a i && eqb b q))
inserted rows a b old new lt here is i q = grind (arith, cases_eq, get_or_default, get_or-set_same, has_insert, eq-eqb, get_or-set_other, ne_eqb, same_bool, eqb-true)
