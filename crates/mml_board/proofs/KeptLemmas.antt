-- The world that a board's stored parts represent, before and after an event.
use Rattle.std.proofs.Common.{◌≡◌, ℕ, zero, suc, Bool, true, not, cond, eqb, sym, ◌∙◌, arith}
use Rattle.std.{proofs.lemmas.Bool.lt-ltb, proofs.lemmas.Bool.le-ltb, proofs.lemmas.Bool.and_right, proofs.lemmas.Bool.and_parts, specs.FinSet.FinSet, specs.Ordering.nat_cmp, specs.Cmp.nat_cmp_total}
use Rattle.mml_ids.specs.{Search.count_below, Sets.those_below, inside.WordsLemmas.has_empty, inside.WordsLemmas.has_remove, inside.WordsLemmas.same_ranks, inside.WordsLemmas.has-those_below}
use Rattle.mml_ids.proofs.NodeSetLemmas.{len-insert_new}
use Rattle.mml_board.specs.{World.World, World.IsWorld, Events.chosen_nodes, inside.Kept.AreChosen}
use Rattle.mml_board.proofs.WorldLemmas.{chosen_node, chosen_within}
use Rattle.std.proofs.{Common.length-set, lemmas.Bool.eqb-true, lemmas.List.get_or_default}
use Rattle.mml_rules.proofs.NetworkLemmas.{registers_at-set}
use Rattle.std.specs.FinSet as sets

-- ---- sets of nodes

-- a rank in a set with one rank removed is in the set
pub in_remove : (s : FinSet nat_cmp) (a i : ℕ) → sets.contains (sets.remove s a) i ≡ true → sets.contains s i ≡ true
in_remove s a i h = (and_parts (not (eqb i a)) (sets.contains s i) (sym (has_remove s a i) ∙ h)).1

-- `left` is a part of `nodes`; at each rank that isn't in `left`, `now` has the value of f if the rank is in `nodes`, and
-- otherwise the value of `before`
abbrev pub IsDone : {X : Type 0} → (ℕ → X) → (ℕ → X) → FinSet nat_cmp → FinSet nat_cmp → (ℕ → X) → Type 0
IsDone before f nodes left now = record {
  within : (i : ℕ) → sets.contains left i ≡ true → sets.contains nodes i ≡ true;
  values : (i : ℕ) → cond (sets.contains left i) (f i) (now i) ≡ cond (sets.contains nodes i) (f i) (before i);
}

-- the difference of a set and itself is empty
pub none_left : (s : FinSet nat_cmp) → sets.difference s s ≡ sets.empty
none_left s = grind (arith, same_ranks, has_empty, sets.contains-difference)

-- if neither of two sets has a rank that the other lacks, they are equal
pub same_sets : (s t : FinSet nat_cmp) → sets.difference s t ≡ sets.empty → sets.difference t s ≡ sets.empty → s ≡ t
same_sets s t e f = same_ranks _ _ (λ q. grind (arith, has_empty q, sets.contains-difference nat_cmp_total s t q, sets.contains-difference nat_cmp_total t s q))

-- the set of the numbers below n that pass a test has as many elements as numbers below n pass
pub len-those_below : (n : ℕ) (t : ℕ → Bool) → sets.len (those_below n t) ≡ count_below n t
unfolding those_below
len-those_below zero t = sets.len-empty nat_cmp
len-those_below (suc n) t = grind (arith, has-those_below, le-ltb, len-insert_new, len-those_below n t)

-- what a loop that sets a value for each rank of a set needs
pub ruleset each_step = (has_empty, has_remove, eqb-true, length-set, registers_at-set, get_or_default, chosen_within)

-- ---- the getters

-- the set that a board stores is the set of the nodes with a chosen move
pub chosen_nodes-is : (w : World) (s : FinSet nat_cmp) → IsWorld w → AreChosen w.chosen s → s ≡ chosen_nodes w
unfolding chosen_nodes
chosen_nodes-is w s k are = grind (arith, same_ranks, has-those_below, lt-ltb, and_right, chosen_node)

-- what the functions that count nodes need
pub ruleset counts = (len-those_below)
