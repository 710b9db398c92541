-- The index of a network gives the right answers, and keeps doing so after each change of the network. The suitors of a
-- node are the nodes that point at it; the index has a row for each node, the set of its suitors.
use Rattle.std.proofs.Common.{◌≡◌, ℕ, ◌<◌, ◌≤◌, ◌+◌, Bool, true, false, cond, not, ◌&&◌, eqb, ltb, Option, None, Some, is_none, List, length, set, sym, ap, arith, length-set}
use Rattle.std.specs.{Prelude.replicate, Prelude.IfSome, Prelude.IfNone, FinSet.FinSet, Ordering.nat_cmp, Cmp.nat_cmp_total}
use Rattle.std.proofs.lemmas.Bool.{cases_eq, cases_lt, cases_Bool, eq-eqb, ne_eqb, eqb-true, eqb-false, lt-ltb, le-ltb, and_right, and_parts, both_ways, false_from_ne_true}
use Rattle.std.proofs.lemmas.List.{get_or-replicate, length-replicate}
use Rattle.mml_ids.specs.{declared.TheConstants.MAX_NODES, inside.WordsLemmas.has_empty, inside.WordsLemmas.same_ranks}
use Rattle.mml_ids.proofs.SearchLemmas.{greatest_is, greatest_below-some}
use Rattle.mml_rules.specs.{declared.regs.Regs.Regs, Configuration.Configuration, Configuration.IsLawful, Configuration.holds, Rules.has_suitor, Rules.is_candidate, Rules.greatest_candidate}
use Rattle.mml_rules.specs.Network.{Network, neighbours_at, registers_at, configuration_of, unpointed}
use Rattle.mml_rules.proofs.{ConfigurationLemmas.holds-true, ConfigurationLemmas.holds-from, RulesLemmas.suitor-find, RulesLemmas.suitor-from}
use Rattle.mml_rules.proofs.NetworkLemmas.{has-with_neighbour, has-without_neighbour, length-with_neighbour, length-without_neighbour, registers_at-set}
use Rattle.mml_board.specs.inside.Rows.{with_suitor, without_suitor, AreRows}
use Rattle.mml_board.proofs.EventsLemmas.{cut-at}
use Rattle.std.specs.FinSet as sets

-- ---- the nodes that point at a node

turned : (a b : ℕ) → eqb a b ≡ eqb b a
turned a b = grind (arith, cases_eq, eq-eqb, ne_eqb)

-- adding a suitor keeps the number of rows
pub length-with_suitor : (rows : List (FinSet nat_cmp)) (p : Option ℕ) (k : ℕ) → length (with_suitor rows p k) ≡ length rows
length-with_suitor rows p k = grind (arith, length-with_neighbour)

-- removing a suitor keeps the number of rows
pub length-without_suitor : (rows : List (FinSet nat_cmp)) (p : Option ℕ) (k : ℕ) → length (without_suitor rows p k) ≡ length rows
length-without_suitor rows p k = grind (arith, length-without_neighbour)

-- adding and removing a suitor keep the number of rows
pub ruleset suitor_lengths = (length-with_suitor, length-without_suitor)

-- no rank is below 0
pub below_none : (j : ℕ) (b : Bool) → false ≡ (ltb j 0 && b)
below_none j b = sym (ap (λ x. x && b) (le-ltb j 0 (omega arith)))

-- ---- building the rows

-- if all sets are empty, they are the index of the nodes below rank 0
pub no_rows : (registers : List Regs) (rows : List (FinSet nat_cmp)) (free believing : FinSet nat_cmp)
    → rows ≡ replicate (length registers) (sets.empty {R = nat_cmp}) → free ≡ sets.empty → believing ≡ sets.empty → AreRows registers 0 rows free believing
no_rows registers rows free believing is e f = grind (arith, length-replicate, get_or-replicate, has_empty, below_none, is_none)

next_here : (j k : ℕ) → eqb j k ≡ true → (ltb j (k + 1) ≡ true) × (ltb j k ≡ false)
next_here j k e = let s = eqb-true j k e in (lt-ltb j (k + 1) (omega arith), le-ltb j k (omega arith))

-- the numbers below k + 1 that pass are those below k that pass, and k if it passes
pub below_next : (test : ℕ → Bool) (j k : ℕ) (b : Bool) → b ≡ test k → cond (eqb j k) b (ltb j k && test j) ≡ (ltb j (k + 1) && test j)
below_next test j k b is = grind (arith, eqb-true, next_here, cases_lt, lt-ltb, eqb-false, le-ltb)

-- if node k is added to the index of the nodes below k, it is the index of the nodes below k + 1
pub next_rows : (registers : List Regs) (k : ℕ) (rows rows' : List (FinSet nat_cmp)) (free believing free' believing' : FinSet nat_cmp)
    → AreRows registers k rows free believing → ((x : ℕ) → (registers_at registers k).p ≡ Some x → x < length registers)
    → rows' ≡ with_suitor rows (registers_at registers k).p k
    → ((j : ℕ) → sets.contains free' j ≡ cond (eqb j k) (is_none (registers_at registers k).p) (sets.contains free j))
    → ((j : ℕ) → sets.contains believing' j ≡ cond (eqb j k) (registers_at registers k).m (sets.contains believing j))
    → AreRows registers (k + 1) rows' free' believing'
next_rows registers k rows rows' free believing free' believing' are l is f b =
    grind (arith, length-with_suitor, has-with_neighbour, turned, is_none, below_next, next_here, eqb-true, and_right, cases_lt, lt-ltb, eqb-false, le-ltb)

-- ---- the rows after a node's registers have changed

-- if a node gets new registers, it leaves the row of its old pointer and joins that of its new pointer
pub rows-set : (registers registers' : List Regs) (a : ℕ) (x : Regs) (rows rows' : List (FinSet nat_cmp)) (free believing free' believing' : FinSet nat_cmp)
    → AreRows registers (length registers) rows free believing → a < length registers → registers' ≡ set registers a x
    → ((i : ℕ) → (registers_at registers a).p ≡ Some i → i < length registers) → ((i : ℕ) → x.p ≡ Some i → i < length registers)
    → rows' ≡ with_suitor (without_suitor rows (registers_at registers a).p a) x.p a
    → ((j : ℕ) → sets.contains free' j ≡ cond (eqb j a) (is_none x.p) (sets.contains free j))
    → ((j : ℕ) → sets.contains believing' j ≡ cond (eqb j a) x.m (sets.contains believing j))
    → AreRows registers' (length registers') rows' free' believing'
rows-set registers registers' a x rows rows' free believing free' believing' are l z old new is f b =
    grind (arith, suitor_lengths, length-set, has-with_neighbour, turned, has-without_neighbour, is_none, registers_at-set, eqb-true, lt-ltb)

-- ---- answers from the rows

-- if b says that a set is empty, and t that some rank is in it, b is the opposite of t
pub not_empty : (s : FinSet nat_cmp) (b t : Bool) → (b ≡ true → s ≡ sets.empty) × (s ≡ sets.empty → b ≡ true)
    → (t ≡ true → (j : ℕ) × (sets.contains s j ≡ true)) → ((j : ℕ) → sets.contains s j ≡ true → t ≡ true) → not b ≡ t
not_empty s b t h found from = grind (arith, same_ranks s sets.empty, has_empty, false_from_ne_true, both_ways)

-- a node has a suitor exactly if its row isn't empty
pub suitors-read : (n : Network) (rows : List (FinSet nat_cmp)) (free believing row : FinSet nat_cmp) (i : ℕ) → IsLawful (configuration_of n)
    → AreRows n.registers (length n.registers) rows free believing → i < length n.registers
    → row ≡ neighbours_at rows i → (b : Bool) → (b ≡ true → row ≡ sets.empty) × (row ≡ sets.empty → b ≡ true) → not b ≡ has_suitor (configuration_of n) i
suitors-read n rows free believing row i lawful are l is b h =
    not_empty row b (has_suitor (configuration_of n) i) h
    (λ s. let r = suitor-find (configuration_of n) i s in (r.0, grind (arith, holds-from, lt-ltb, are.pointing i r.0 l)))
    (λ j q. grind (arith, are.pointing i j l, suitor-from (configuration_of n) i j, holds-true, and_parts))

-- the set from which a seduction chooses has exactly the candidates of the node
pub candidates_read : (n : Network) (rows : List (FinSet nat_cmp)) (free believing courted candidates s t : FinSet nat_cmp) (i j : ℕ)
    → IsLawful (configuration_of n) → length n.registers ≤ MAX_NODES → AreRows n.registers (length n.registers) rows free believing
    → courted ≡ sets.intersection (neighbours_at n.neighbours i) free → s ≡ sets.difference courted believing
    → ((q : ℕ) → sets.contains t q ≡ (ltb i q && ltb q MAX_NODES)) → candidates ≡ sets.intersection s t
    → sets.contains candidates j ≡ is_candidate (configuration_of n) i j
candidates_read n rows free believing courted candidates s t i j lawful few are a b c d =
    let free_row = sets.contains-intersection nat_cmp_total (neighbours_at n.neighbours i) free j in
    let unmarried = sets.contains-difference nat_cmp_total courted believing j in
    let above = sets.contains-intersection nat_cmp_total s t j in
    grind (arith, is_none, lt-ltb, cases_Bool (sets.contains (neighbours_at n.neighbours i) j))

-- the greatest rank in the set of candidates is the greatest candidate
pub greatest_told : (c : Configuration) (candidates : FinSet nat_cmp) (i : ℕ) (found : Option ℕ) → IsLawful c
    → ((j : ℕ) → sets.contains candidates j ≡ is_candidate c i j)
    → IfNone found (candidates ≡ sets.empty) → IfSome found (λ j. sets.contains candidates j ≡ true)
    → IfSome found (λ j. (k : ℕ) → sets.contains candidates k ≡ true → k ≤ j) → found ≡ greatest_candidate c i
unfolding greatest_candidate
greatest_told c candidates i None lawful is none member greatest = grind (arith, greatest_below-some, has_empty, both_ways)
greatest_told c candidates i (Some j) lawful is none member greatest = grind (arith, greatest_is c.size j (is_candidate c i), and_parts, false_from_ne_true)

-- ---- a cut

-- if a doesn't point at b, removing the pointer from a to b changes nothing
pub unpointed-again : (registers : List Regs) (a b : ℕ) → holds (registers_at registers a).p b ≡ false → unpointed registers a b ≡ registers
unpointed-again registers a b e = ap (λ x. cond x (set registers a (record { p = None; m = (registers_at registers a).m })) registers) e

-- removing the pointers along a link a second time changes nothing
pub cut_again : (registers : List Regs) (a b : ℕ) → a < length registers → b < length registers
    → unpointed (unpointed (unpointed (unpointed registers a b) b a) a b) b a ≡ unpointed (unpointed registers a b) b a
cut_again registers a b la lb = grind (arith, unpointed-again, cut-at, eq-eqb)
