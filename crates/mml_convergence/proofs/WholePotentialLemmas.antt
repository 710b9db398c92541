-- The sum of all potentials falls in a step by at least the number of moves. The sum is at most 2 for each link and 3
-- for each node.
use Rattle.std.proofs.Common.{◌≡◌, ℕ, zero, suc, ◌+◌, ◌*◌, ◌<◌, ◌≤◌, Bool, true, false, cond, ◌&&◌, Option, None, Some, is_some, inl, inr, refl, sym, arith, nat_lt}
use Rattle.std.specs.Option.{option_map_or}
use Rattle.std.proofs.lemmas.Bool.{and_parts, and_right, ltb-true, lt-ltb, le-ltb, eqb-true, false_from_ne_true, cases_Bool, Decides.nat_tests}
use Rattle.mml_ids.specs.Search.{count_below}
use Rattle.mml_ids.proofs.SearchLemmas.{same_bool, count_same}
use Rattle.mml_rules.specs.{declared.rule.Rule.Rule, Configuration.Configuration, Configuration.IsLawful, Configuration.holds, Rules.is_married, Rules.step, Rules.AllHold}
use Rattle.mml_lab.specs.Labs.{links_below}
use Rattle.mml_convergence.specs.{Potential.sum_below, Potential.points_down, Potential.is_above, Potential.link_part, Potential.potential, Potential.whole_potential, Moves.moves}
use Rattle.mml_convergence.proofs.{PartsLemmas.own_most, PartsLemmas.link_most, MovesLemmas.pays, MovesLemmas.marries_lower, PotentialLemmas.potential_fell}
use Rattle.mml_convergence.proofs.SumsLemmas.{sum_kept, sum_charged, sum_most, sum_parts, sum_split, sum_turned, sum_of_tests, one_column, count_none, count_some, count_one_at_most}

-- ---- a step

-- the moves that are charged to i in a network of n nodes: its own move, if it isn't a marriage with a lower node, and
-- each marriage of a higher node with i
abbrev charge : (ℕ → Option Rule) → ℕ → ℕ → ℕ
charge chosen n i = cond (pays (chosen i) i) 1 0 + count_below n (λ k. marries_lower (chosen k) k i)

-- each move is charged to its node, or to the lower node that it marries
one_charged : (o : Option Rule) (k n : ℕ) → k < n → cond (is_some o) 1 0 ≤ cond (pays o k) 1 0 + count_below n (marries_lower o k)
one_charged (Some (Rule.Marriage j)) k n lt = grind (arith, nat_tests, count_some n j (marries_lower (Some (Rule.Marriage j)) k))
one_charged _ k n lt = omega arith

all_charged : (chosen : ℕ → Option Rule) (n : ℕ) → count_below n (moves chosen) ≤ sum_below n (charge chosen n)
all_charged chosen n =
    let split = sum_split n (λ i. cond (pays (chosen i) i) 1 0) (λ i. count_below n (λ k. marries_lower (chosen k) k i)) in
    let turned = sum_turned (λ i k. marries_lower (chosen k) k i) n n in
    let joined = sum_split n (λ k. cond (pays (chosen k) k) 1 0) (λ k. count_below n (marries_lower (chosen k) k)) in
    let each =
    sum_kept n (λ k. cond (moves chosen k) 1 0) (λ k. cond (pays (chosen k) k) 1 0 + count_below n (marries_lower (chosen k) k))
    (λ k lt. one_charged (chosen k) k n lt) in
    omega (arith, split, turned, joined, each, sum_of_tests n (moves chosen))

-- in a step the sum of all potentials falls by at least the number of moves
pub whole_fell : (c : Configuration) (chosen : ℕ → Option Rule) → IsLawful c → AllHold c chosen
    → whole_potential (step c chosen) + count_below c.size (moves chosen) ≤ whole_potential c
unfolding whole_potential
whole_fell c chosen l h = grind (arith, nat_tests, sum_charged, potential_fell, all_charged)

-- ---- the bound

-- the pointer of a node leads to at most one higher neighbour, and not also to a lower node
one_pointer : (c : Configuration) (i n : ℕ) (o : Option ℕ) → count_below n (λ j. is_above c i j && holds o j) + cond (option_map_or (λ j. nat_lt j i) o false) 1 0 ≤ 1
one_pointer c i n None = let none = count_none n (λ j. is_above c i j && false) (λ j lt. and_right (is_above c i j) false refl) in omega (arith, none)
one_pointer c i n (Some k) = elim (cases_Bool (nat_lt k i)) [
  | inl down ↦ grind (arith, nat_tests, count_none, false_from_ne_true, and_parts, ltb-true, eqb-true)
  | inr up ↦
      let once =
      count_one_at_most n k (λ j. is_above c i j && holds (Some k) j) (λ j e. sym (eqb-true k j (and_parts (is_above c i j) (holds (Some k) j) e).1)) in
      grind (arith, nat_tests, once, up)
]

pub potential_most : (c : Configuration) (i : ℕ) → potential c i ≤ 3 + 2 * count_below c.size (is_above c i)
unfolding potential
potential_most c i =
    let links = sum_parts c.size (is_above c i) (holds (c.p i)) (link_part c i) (λ j. link_most (holds (c.p i) j) (holds (c.p j) i) (c.m j) (is_married c j)) in
    omega (arith, own_most (is_married c i) (c.m i) (points_down c i), links, one_pointer c i c.size (c.p i))

and_on : (x y : Bool) → y ≡ true → (x && y) ≡ x
and_on x y e = grind (arith, nat_tests)

-- counting the links at their lower ends gives the same number as counting them at their higher ends
pub counted_above : (c : Configuration) (n : ℕ) → IsLawful c → sum_below n (λ i. count_below n (is_above c i)) ≡ links_below c n
counted_above c zero l = refl
counted_above c (suc n) l =
    let none = count_none (suc n) (is_above c n) (λ j lt. and_right (c.linked n j) (nat_lt n j) (le-ltb n j (omega arith))) in
    grind (arith, nat_tests, counted_above c n l, one_column (is_above c) n n, none, count_same, and_on, lt-ltb, same_bool)

-- the sum of all potentials is at most 2 for each link and 3 for each node
pub whole_most : (c : Configuration) → IsLawful c → whole_potential c ≤ 2 * links_below c c.size + 3 * c.size
unfolding whole_potential
whole_most c l = let most = sum_most c.size (potential c) (λ i. count_below c.size (is_above c i)) (potential_most c) in omega (arith, most, counted_above c c.size l)
