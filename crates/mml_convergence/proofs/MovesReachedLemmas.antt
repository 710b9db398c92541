-- The dense network, the run in it, and the number of its moves.
use Rattle.std.proofs.Common.{◌≡◌, ℕ, zero, suc, ◌+◌, ◌*◌, ◌-◌, ◌%◌, ◌<◌, ◌≤◌, Bool, true, false, Option, Some, ◌==◌, refl, ◌∙◌, arith}
use Rattle.std.proofs.lemmas.Bool.{Decides.nat_tests}
use Rattle.mml_ids.specs.{declared.TheConstants.MAX_NODES, Search.count_below}
use Rattle.mml_rules.specs.Configuration.{Configuration, holds}
use Rattle.mml_lab.specs.Rosters.{RosterValue, owns}
use Rattle.mml_board.specs.World.{size, configuration, IsWorld}
use Rattle.mml_convergence.specs.{Courtships.most_courtships, Crowd.is_near, Crowd.first_pointer, Crowd.crowd_world}
use Rattle.mml_convergence.proofs.{MoveLemmas.Has, MoveLemmas.stop, MoveLemmas.unrounded, RunLemmas.Onward, RunLemmas.phase, ClearLemmas.Applies, ClearLemmas.cleared, ClearLemmas.clears}
use Rattle.mml_convergence.proofs.SumsLemmas.{count_between, count_one, count_either}
use Rattle.mml_convergence.proofs.PhaseLemmas.{Seated, courts, marries_now, learns, leaves}
use Rattle.mml_convergence.proofs.ClearLemmas as opened
use Rattle.mml_lab.specs.declared.who.Who.TheVariants as who

-- ---- the dense network at the beginning

-- every node of the dense network is a low node, as `PhaseLemmas` uses the word
abbrev all : ℕ → Bool
all i = true

abbrev first : ℕ → ℕ → Option ℕ
first n i = Some (first_pointer n i)

-- at the beginning, each node points at another node, which doesn't point back
points : (n i : ℕ) → 4 ≤ n → i < n → (first_pointer n i < n) × (i ≡ first_pointer n i → ⊥) × (holds (first n (first_pointer n i)) i ≡ false)
points n i four lt = grind (arith, nat_tests)

-- links go both ways, join different nodes, and are between nodes
turns : (n i j : ℕ) → is_near n i j ≡ true → is_near n j i ≡ true
turns n i j e = grind (arith, nat_tests)

loops : (n i : ℕ) → is_near n i i ≡ true → ⊥
loops n i e = grind (arith, nat_tests)

joined : (n : ℕ) → 4 ≤ n → (i j : ℕ) → i < n → first n i ≡ Some j → (j < n) × (is_near n i j ≡ true)
joined n four i j lt e = grind (arith, nat_tests)

-- the dense network at the beginning is a lawful world of n nodes
pub crowd_opens : (n : ℕ) → 4 ≤ n → n ≤ MAX_NODES → IsWorld (crowd_world n) × (size (crowd_world n) ≡ n)
crowd_opens n four few = (opened.is_world n (is_near n) (first n) (turns n) (loops n) (joined n four) few, opened.sized n (is_near n) (first n))

near : (n r b i : ℕ) → r + b + 1 ≡ n → r ≤ i → i < b → is_near n i b ≡ true
near n r b i sum from below = grind (arith, nat_tests)

-- after all nodes have updated and dropped their pointers, phase 0 can begin
seated : (n : ℕ) (c : Configuration) → Has n (opened.links n (is_near n) (first n)) (cleared (first n) n) c → Seated n all 0 c
seated n c k = record {
  shape = record {
    size = k.size;
    lawful = k.lawful;
    joined = λ r b i sum room from below low.
        let linked =
        k.linked i b ∙ opened.linked-from n (is_near n) (first n) i b (omega (arith, below, sum)) (omega (arith, sum)) (near n r b i sum from below) in
        (linked, k.lawful.symmetric i b linked);
    upward = λ i j linked lt. refl;
    lowest = λ r room. refl;
  };
  couples = λ i j lt total. absurd (omega (arith, lt));
  free = λ i from near. (grind (arith, nat_tests, k.p i), grind (arith, nat_tests, k.m i));
}

-- ---- the run

-- the number of nodes that move in each of the four rounds of a phase
counts : (n p b : ℕ) (sum : p + b + 1 ≡ n) (room : 2 * p + 2 ≤ n)
    → (p + count_below n (courts n all p b sum room) ≡ b) × (count_below n (marries_now n all p b sum room) ≡ 1)
    × (count_below n (learns n all p b sum room) ≡ 2) × (suc p + count_below n (leaves n all p b sum room) ≡ b)
counts n p b sum room =
    let both = count_either n (λ i. i == b) (λ i. i == p) (grind (arith, nat_tests)) in
    let one = count_one b n (omega (arith, sum)) in (
      count_between p b (courts n all p b sum room) (omega (arith, sum, room)) (grind (arith, nat_tests)) (grind (arith, nat_tests)) n (omega (arith, sum)),
      one,
      omega (arith, both, one, count_one p n (omega (arith, sum))),
      count_between (suc p) b (leaves n all p b sum room) (omega (arith, sum, room)) (grind (arith, nat_tests)) (grind (arith, nat_tests)) n
          (omega (arith, sum)),
    )

module _ (r : RosterValue) (s n : ℕ) (owned : (i : ℕ) → i < n → owns r (who.Student s) i ≡ true) where
  -- the phases from p on, if f nodes aren't married: the moves are f plus twice the greatest number of courtships, minus
  -- one if f is odd
  phases : (f p : ℕ) → 2 * p + f ≡ n → Onward r s n all owned (λ u x. x ≡ f + 2 * most_courtships f - f % 2) 0 (Seated n all p)
  phases zero p e w world quiet at = stop _ r w refl
  phases (suc zero) p e w world quiet at = stop _ r w refl
  phases (suc (suc f)) p e w world quiet at =
      let b = n - (p + 1) in
      let sum : p + b + 1 ≡ n = omega (arith, e) in
      let room : 2 * p + 2 ≤ n = omega (arith, e) in
      unrounded _ _ r w 4 (λ u x e. e)
      (phase r s n all owned p b sum room _ 0 (λ u ku qu seated.
      unrounded (λ u x. x ≡ f + 2 * most_courtships f - f % 2) _ r u 0 (λ v x same. omega (arith, same, counts n p b sum room, e))
      (phases f (suc p) (omega (arith, e)) u ku qu seated)) w world quiet at)

whole_run : (r : RosterValue) (s n : ℕ) → 4 ≤ n → n ≤ MAX_NODES → ((i : ℕ) → i < n → owns r (who.Student s) i ≡ true)
    → (a : ℕ) → 3 * n + 2 * most_courtships n - n % 2 ≡ a → Applies r (crowd_world n) a
whole_run r s n four few owned a total =
    clears n (is_near n) (first n) (turns n) (loops n) (joined n four) r s owned n (omega arith)
    (λ i lt. let x = points n i four lt in (first_pointer n i, refl, x.0, x.1, x.2)) few (n + 2 * most_courtships n - n % 2) a (omega (arith, total))
    (λ w world quiet k. phases r s n owned n 0 (omega arith) w world quiet (seated n (configuration w) k))

pub moves_reached_even : (r : RosterValue) (s k : ℕ) → 2 ≤ k → 2 * k ≤ MAX_NODES → ((i : ℕ) → i < 2 * k → owns r (who.Student s) i ≡ true)
    → Applies r (crowd_world (2 * k)) (3 * (2 * k) + 2 * most_courtships (2 * k))
moves_reached_even r s k two few owned = whole_run r s (2 * k) (omega (arith, two)) few owned _ (omega arith)

pub moves_reached_odd : (r : RosterValue) (s k : ℕ) → 2 ≤ k → 2 * k + 1 ≤ MAX_NODES → ((i : ℕ) → i < 2 * k + 1 → owns r (who.Student s) i ≡ true)
    → Applies r (crowd_world (2 * k + 1)) (3 * (2 * k + 1) + 2 * most_courtships (2 * k + 1) - 1)
moves_reached_odd r s k two few owned = whole_run r s (2 * k + 1) (omega (arith, two)) few owned _ (omega arith)
