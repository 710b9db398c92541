-- Changes of a network: which parts stay the same, and that the network stays lawful.
use Rattle.std.proofs.Common.{◌≡◌, ℕ, ◌<◌, true, false, cond, not, ◌&&◌, ◌||◌, eqb, Some, List, length, set, sym, subst, arith, length-set, get_or-set_same, get_or-set_other}
use Rattle.std.proofs.lemmas.Bool.{cases_eq, eq-eqb, ne_eqb, eqb-true, and_parts, and_from, or_cases, or_left, or_right, both_ways, false_from_ne_true}
use Rattle.std.specs.{FinSet.FinSet, Ordering.nat_cmp}
use Rattle.mml_ids.specs.inside.WordsLemmas.{has_insert, has_remove}
use Rattle.mml_rules.specs.declared.regs.Regs.{Regs}
use Rattle.mml_rules.specs.Network.{Network, neighbours_at, registers_at, configuration_of, IsNetwork, with_neighbour, without_neighbour, unpointed, with_registers, with_link, without_link}
use Rattle.std.specs.FinSet as sets

-- after node a gets the registers r, a has r, and all other nodes have the same registers as before
pub registers_at-set : (registers : List Regs) (a i : ℕ) (r : Regs) → a < length registers → registers_at (set registers a r) i ≡ cond (eqb i a) r (registers_at registers i)
registers_at-set registers a i r l = grind (arith, cases_eq, get_or-set_same, eq-eqb, get_or-set_other, ne_eqb)

-- after b is added to the neighbours of a, i has the neighbour j if it had j before, or if i is a and j is b
pub has-with_neighbour : (neighbours : List (FinSet nat_cmp)) (a b i j : ℕ) → a < length neighbours
    → sets.contains (neighbours_at (with_neighbour neighbours a b) i) j ≡ ((eqb i a && eqb j b) || sets.contains (neighbours_at neighbours i) j)
has-with_neighbour neighbours a b i j l = grind (arith, cases_eq, get_or-set_same, eq-eqb, get_or-set_other, ne_eqb, has_insert, eqb-true)

-- after b is removed from the neighbours of a, i has the neighbour j if it had j before, unless i is a and j is b
pub has-without_neighbour : (neighbours : List (FinSet nat_cmp)) (a b i j : ℕ) → a < length neighbours
    → sets.contains (neighbours_at (without_neighbour neighbours a b) i) j ≡ (not (eqb i a && eqb j b) && sets.contains (neighbours_at neighbours i) j)
has-without_neighbour neighbours a b i j l = grind (arith, cases_eq, get_or-set_same, eq-eqb, get_or-set_other, ne_eqb, has_remove, eqb-true)

-- adding a neighbour keeps the number of rows, one for each node
pub length-with_neighbour : (neighbours : List (FinSet nat_cmp)) (a b : ℕ) → length (with_neighbour neighbours a b) ≡ length neighbours
length-with_neighbour neighbours a b = length-set neighbours a (sets.insert (neighbours_at neighbours a) b)

-- removing a neighbour keeps the number of rows, one for each node
pub length-without_neighbour : (neighbours : List (FinSet nat_cmp)) (a b : ℕ) → length (without_neighbour neighbours a b) ≡ length neighbours
length-without_neighbour neighbours a b = length-set neighbours a (sets.remove (neighbours_at neighbours a) b)

-- setting a pointer to null keeps the number of nodes
pub length-unpointed : (registers : List Regs) (a b : ℕ) → length (unpointed registers a b) ≡ length registers
length-unpointed registers a b = grind (arith, length-set)

-- a network stays lawful if a node gets a new pointer that is null or leads to a neighbour
pub with_registers-lawful : (n : Network) (i : ℕ) (r : Regs) → IsNetwork n → i < length n.registers
    → ((j : ℕ) → r.p ≡ Some j → sets.contains (neighbours_at n.neighbours i) j ≡ true) → IsNetwork (with_registers n i r)
with_registers-lawful n i r w l ok = grind (arith, length-set, registers_at-set, eqb-true)

-- after a and b are linked, there is a link between them, and all others are as before
pub linked-with_link : (n : Network) (a b i j : ℕ) → a < length n.neighbours → b < length n.neighbours
    → (configuration_of (with_link n a b)).linked i j ≡ ((eqb i b && eqb j a) || ((eqb i a && eqb j b) || (configuration_of n).linked i j))
linked-with_link n a b i j la lb = grind (arith, has-with_neighbour, length-with_neighbour)

-- after the link between a and b is cut, they aren't linked, and all other links are as before
pub linked-without_link : (n : Network) (a b i j : ℕ) → a < length n.neighbours → b < length n.neighbours
    → (configuration_of (without_link n a b)).linked i j ≡ (not (eqb i b && eqb j a) && (not (eqb i a && eqb j b) && (configuration_of n).linked i j))
linked-without_link n a b i j la lb = grind (arith, has-without_neighbour, length-without_neighbour)

-- if both tests are true, i is a and j is b
pub both_are : (i a j b : ℕ) → (eqb i a && eqb j b) ≡ true → (i ≡ a) × (j ≡ b)
both_are i a j b h = let x = and_parts (eqb i a) (eqb j b) h in (eqb-true i a x.0, eqb-true j b x.1)

-- if i is a and j is b, both tests are true
pub are_both : (i a j b : ℕ) → i ≡ a → j ≡ b → (eqb i a && eqb j b) ≡ true
are_both i a j b e f = and_from _ _ (eq-eqb i a e) (eq-eqb j b f)

-- a network stays lawful if a link is added between two different nodes
pub with_link-lawful : (n : Network) (a b : ℕ) → IsNetwork n → a < length n.registers → b < length n.registers → (a ≡ b → ⊥) → IsNetwork (with_link n a b)
with_link-lawful n a b w la lb apart = grind (arith, length-with_neighbour, or_right, linked-with_link, or_cases, both_are, or_left, are_both, false_from_ne_true, both_ways)

-- if i points at j after the pointer from a to b was set to null, i pointed at j before, and i isn't a or j isn't b
pub pointer_left : (registers : List Regs) (a b i j : ℕ) → a < length registers → (registers_at (unpointed registers a b) i).p ≡ Some j
    → ((registers_at registers i).p ≡ Some j) × ((eqb i a && eqb j b) ≡ false)
pointer_left registers a b i j l = grind (arith, registers_at-set, false_from_ne_true, both_are, both_ways, eq-eqb)

-- a network stays lawful if a link and the pointers along it are removed
pub without_link-lawful : (n : Network) (a b : ℕ) → IsNetwork n → a < length n.registers → b < length n.registers → IsNetwork (without_link n a b)
without_link-lawful n a b w la lb =
    grind (arith, length-without_neighbour, and_from, false_from_ne_true, both_ways, pointer_left, length-unpointed, linked-without_link, and_parts)

network_is : (m n : Network) → m.neighbours ≡ n.neighbours → m.registers ≡ n.registers → n ≡ m
network_is m n e f = λ k. record { neighbours = sym e k; registers = sym f k }

-- if m has the neighbours and registers of the network n with one more link, m is a network too
pub linked_is_lawful : (n m : Network) (a b : ℕ) → IsNetwork n → a < length n.registers → b < length n.registers → (a ≡ b → ⊥)
    → m.neighbours ≡ with_neighbour (with_neighbour n.neighbours a b) b a → m.registers ≡ n.registers → IsNetwork m
linked_is_lawful n m a b w la lb apart e f = subst (λ x. IsNetwork x) (network_is m (with_link n a b) e f) (with_link-lawful n a b w la lb apart)

-- if two networks are equal, each node of the second is a node of the first
pub node_within : (n m : Network) (a : ℕ) → n ≡ m → a < length m.registers → a < length n.registers
node_within n m a e l = subst (λ (x : Network). a < length x.registers) (sym e) l

-- if m has the neighbours and registers of the network n after a link was cut, m is a network too
pub cut_is_lawful : (n m : Network) (a b : ℕ) → IsNetwork n → a < length n.registers → b < length n.registers
    → m.neighbours ≡ without_neighbour (without_neighbour n.neighbours a b) b a → m.registers ≡ unpointed (unpointed n.registers a b) b a → IsNetwork m
cut_is_lawful n m a b w la lb e f = subst (λ x. IsNetwork x) (network_is m (without_link n a b) e f) (without_link-lawful n a b w la lb)
