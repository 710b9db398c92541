-- The stored set of privileged nodes stays right when the network changes.
use Rattle.std.proofs.Common.{◌≡◌, ℕ, ◌<◌, Bool, true, false, cond, not, is_some, ◌||◌, eqb, Option, None, List, set, sym, ap, ◌∙◌, arith}
use Rattle.std.specs.{Prelude.IfSome, Prelude.IfNone, FinSet.FinSet, Ordering.nat_cmp}
use Rattle.std.proofs.lemmas.Bool.{eq-eqb, ne_eqb, lt-ltb, both_ways, or_left, false_from_ne_true}
use Rattle.mml_ids.specs.inside.WordsLemmas.{has_empty, has_insert, has_remove, same_ranks, has-those_below}
use Rattle.mml_rules.specs.{Configuration.Configuration, Configuration.IsLawful, Rules.enabled_kind, Rules.is_privileged}
use Rattle.mml_rules.specs.Network.{Network, neighbours_at, configuration_of, IsNetwork, with_neighbour, without_neighbour}
use Rattle.mml_rules.proofs.AroundLemmas.{same_kind}
use Rattle.mml_board.specs.{World.World, World.configuration, World.IsWorld, inside.Kept.AreChosen, inside.Monitor.is_privileged_node, inside.Monitor.privileged_set, inside.Monitor.IsUntouched}
use Rattle.mml_board.proofs.{WorldLemmas.closed, WorldLemmas.moved_at, WorldLemmas.length-moved_registers, ChoicesLemmas.not_some}
use Rattle.std.specs.FinSet as sets

-- `privileged_set` has exactly the privileged nodes
pub has-privileged : (c : Configuration) (j : ℕ) → sets.contains (privileged_set c) j ≡ is_privileged_node c j
unfolding privileged_set
has-privileged c j = has-those_below c.size (is_privileged c) j

-- a set that has exactly the privileged nodes is `privileged_set`
pub privileged-is : (c : Configuration) (s : FinSet nat_cmp) → ((j : ℕ) → sets.contains s j ≡ is_privileged_node c j) → s ≡ privileged_set c
privileged-is c s h = same_ranks _ _ (λ j. h j ∙ sym (has-privileged c j))

-- if a node isn't privileged, no rule is enabled there
pub idle_kind : (c : Configuration) (j : ℕ) → j < c.size → is_privileged_node c j ≡ false → None ≡ enabled_kind c j
idle_kind c j l h = grind (arith, lt-ltb, not_some)

-- what the getter of a node's enabled rule needs
pub ruleset privileged = (has-privileged, idle_kind)

or_none : (x y : Bool) → x ≡ false → (x || y) ≡ y
or_none x y h = ap (λ z. z || y) h

-- if row i changes only at rank a, the rows are the old ones with a added (if b is true) or removed (if b is false) in
-- row i
pub row_told : (rows : List (FinSet nat_cmp)) (s' : FinSet nat_cmp) (i a : ℕ) (b : Bool)
    → ((j : ℕ) → sets.contains s' j ≡ cond (eqb j a) b (sets.contains (neighbours_at rows i) j))
    → set rows i s' ≡ cond b (with_neighbour rows i a) (without_neighbour rows i a)
row_told rows s' i a true h = ap (set rows i) (same_ranks _ _ (λ j. grind (arith, h j, has_insert)))
row_told rows s' i a false h = ap (set rows i) (same_ranks _ _ (λ j. grind (arith, h j, has_remove)))

-- a search for the greatest rank of a set finds none exactly if the set is empty
pub none_greatest : (s : FinSet nat_cmp) (o : Option ℕ) (b : Bool) → is_some o ≡ not b
    → IfNone o (s ≡ sets.empty) → IfSome o (λ r. sets.contains s r ≡ true) → (b ≡ true → s ≡ sets.empty) × (s ≡ sets.empty → b ≡ true)
none_greatest s o b told none member = grind (arith, has_empty, both_ways)

-- let a set be right at each node that is neither in `left` nor next to a node in `left`; after node a and its
-- neighbours are tested again, a can be removed from `left`
pub around_refreshed : (c : Configuration) (now next left left' : FinSet nat_cmp) (a : ℕ) → IsLawful c → left' ≡ sets.remove left a
    → ((j : ℕ) → sets.contains next j ≡ cond (eqb j a || c.linked a j) (is_privileged_node c j) (sets.contains now j))
    → ((j : ℕ) → IsUntouched c left j → sets.contains now j ≡ is_privileged_node c j)
    → (j : ℕ) → IsUntouched c left' j → sets.contains next j ≡ is_privileged_node c j
around_refreshed c now next left left' a lawful e h k j u = grind (arith, has_remove, ne_eqb, both_ways, or_left, eq-eqb, or_none, false_from_ne_true)

-- ---- two configurations that differ only at some nodes

pub record DifferAt (s : FinSet nat_cmp) (c d : Configuration) : Type 0 where
  pub size : c.size ≡ d.size
  pub links : (i j : ℕ) → sets.contains s i ≡ false → c.linked i j ≡ d.linked i j
  pub p : (i : ℕ) → sets.contains s i ≡ false → c.p i ≡ d.p i
  pub m : (i : ℕ) → sets.contains s i ≡ false → c.m i ≡ d.m i

-- after a change at some nodes only, the old privileged set is still right at each untouched node
pub right_after : (s privileged : FinSet nat_cmp) (n n' : Network) → IsNetwork n → IsNetwork n' → DifferAt s (configuration_of n) (configuration_of n')
    → privileged ≡ privileged_set (configuration_of n)
    → (j : ℕ) → IsUntouched (configuration_of n') s j → sets.contains privileged j ≡ is_privileged_node (configuration_of n') j
right_after s privileged n n' k l differ right j u = grind (arith, has-privileged, same_kind)

-- a close changes the configuration only at the nodes with a chosen move
pub close_differs : (s : FinSet nat_cmp) (w : World) → IsWorld w → AreChosen w.chosen s → DifferAt s (configuration w) (configuration_of (closed w))
close_differs s w k h = grind (arith, length-moved_registers, moved_at, not_some)
