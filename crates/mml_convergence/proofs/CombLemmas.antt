-- The comb, the tree of `specs/Comb`: the first pointers of its nodes, and its links. It has one link less than nodes,
-- and each node but the last is linked to a higher node. Then a run on it, in which each close applies one move. In
-- phase r of the run, node r marries the highest node that isn't married.
use Rattle.std.proofs.Common.{zero, suc, ◌&&◌, ◌==◌, nat_lt, ◌∙◌, ap, ◌≡◌, ℕ, ◌+◌, ◌*◌, ◌-◌, ◌<◌, ◌≤◌, inl, inr, Bool, true, false, Some, refl, arith, ◌%◌, Option, cond, nat_le, ◌||◌, None, sym, subst}
use Rattle.std.proofs.lemmas.Bool.{cases_lt, Decides.nat_tests}
use Rattle.mml_ids.specs.{declared.TheConstants.MAX_NODES, Search.count_below}
use Rattle.mml_ids.proofs.SearchLemmas.{count_same}
use Rattle.mml_rules.specs.{Configuration.Configuration, Configuration.holds, declared.regs.Regs.Regs, declared.rule.Rule.Rule, Network.no_regs, Meaning.IsCandidate}
use Rattle.mml_board.specs.World.{size, configuration, IsWorld}
use Rattle.mml_convergence.specs.{Comb.first_pointer, Comb.is_comb, Comb.comb, Comb.comb_world, Potential.sum_below, Potential.is_above}
use Rattle.mml_lab.specs.{Labs.links_below, Labs.link_count, Rosters.RosterValue, Rosters.owns}
use Rattle.mml_convergence.proofs.{SumsLemmas.count_none, SumsLemmas.count_one, WholePotentialLemmas.counted_above, ClearLemmas.Applies, ClearLemmas.clears}
use Rattle.mml_rules.proofs.RulesLemmas.{married-null, married-from}
use Rattle.mml_convergence.proofs.IdleLemmas.{may_update, may_marry, may_abandon, may_seduce, seduces_greatest}
use Rattle.mml_convergence.proofs.MoveLemmas.{put, Has, pointer_in, Onward, alike, play, stop}
use Rattle.mml_convergence.proofs.OpeningLemmas as opening
use Rattle.mml_convergence.proofs.ClearLemmas as opened
use Rattle.mml_lab.specs.declared.who.Who.TheVariants as who

-- ---- the first pointers of the nodes

abbrev Points : (n i j : ℕ) → Type 0
Points n i j = first_pointer n i ≡ Some j

-- at the beginning, each pointer leads to a higher node, which doesn't point back
points : (n i j : ℕ) → Points n i j → (i < j) × (j < n) × (holds (first_pointer n j) i ≡ false)
points n i j e = grind (arith, nat_tests)

-- in the first half, node i points at node n - 1 - i
halfway : (n i j : ℕ) → 2 * i + 2 ≤ n → i + j + 1 ≡ n → Points n i j
halfway n i j first at = grind (arith, nat_tests)

-- in the second half, each node but the last points at the next one
next_to : (n i j : ℕ) → n < 2 * i + 2 → j ≡ i + 1 → i + 1 < n → Points n i j
next_to n i j second at more = grind (arith, nat_tests)

-- at the beginning, each node but the last points at a higher one
mate : (n i : ℕ) → i + 1 < n → (j : ℕ) × (j < n) × (i < j) × Points n i j
mate n i lt = elim (cases_lt (2 * i + 1) n) [
  | inl half ↦ (n - (i + 1), omega (arith, half), omega (arith, half), halfway n i (n - (i + 1)) (omega (arith, half)) (omega (arith, half)))
  | inr past ↦ (i + 1, lt, omega arith, next_to n i (i + 1) (omega (arith, past)) refl lt)
]

-- ---- the links

-- links go both ways, join different nodes, and are between nodes
turns : (n i j : ℕ) → is_comb n i j ≡ true → is_comb n j i ≡ true
turns n i j e = grind (arith, nat_tests)

loops : (n i : ℕ) → is_comb n i i ≡ true → ⊥
loops n i e = grind (arith, nat_tests)

joined : (n i j : ℕ) → i < n → Points n i j → (j < n) × (is_comb n i j ≡ true)
joined n i j lt e = grind (arith, nat_tests)

abbrev links : ℕ → ℕ → ℕ → Bool
links n = opened.links n (is_comb n) (first_pointer n)

-- each node is linked to the node at which it points at the beginning
linked-from : (n i j : ℕ) → Points n i j → links n i j ≡ true
linked-from n i j e =
    let x = points n i j e in
    opened.linked-from n (is_comb n) (first_pointer n) i j (omega (arith, x)) x.1 (joined n i j (omega (arith, x)) e).1

comb_size : (n : ℕ) → size (comb_world n) ≡ n
comb_size n = opened.sized n (is_comb n) (first_pointer n)

-- the comb at the beginning is a lawful world of n nodes
pub comb_opens : (n : ℕ) → 4 ≤ n → n ≤ MAX_NODES → IsWorld (comb_world n) × (size (comb_world n) ≡ n)
comb_opens n four few = (opened.is_world n (is_comb n) (first_pointer n) (turns n) (loops n) (joined n) few, comb_size n)

-- ---- the number of links

-- if i points at h, and no higher node points at i, h is the only higher node that is linked to i; o and q are the
-- pointers of i and j
above_is : (n i j h : ℕ) (o q : Option ℕ) → o ≡ Some h → i < h → j < n → (q ≡ Some i → j < i)
    → ((nat_lt j n && (holds o j || holds q i)) && nat_lt i j) ≡ (j == h)
above_is n i j h o q e lt j_in down = grind (arith, nat_tests)

module _ (n : ℕ) where
  abbrev at_first : Configuration
  at_first = configuration (comb_world n)

  one_above : (i : ℕ) → i + 1 < n → count_below n (is_above at_first i) ≡ 1
  one_above i lt =
      let x = mate n i lt in
      count_same n (is_above at_first i) (λ j. j == x.0) (λ j j_in.
      ap (λ b. b && nat_lt i j) (opening.first_linked n (is_comb n) (comb n).registers (comb_size n) i j (omega (arith, lt)))
      ∙ above_is n i j x.0 (first_pointer n i) (first_pointer n j) x.3 x.2 j_in (λ e. (points n j i e).0))
      ∙ count_one x.0 n x.1

  sum_of_ones : (m : ℕ) → m + 1 ≤ n → sum_below m (λ i. count_below n (is_above at_first i)) ≡ m
  sum_of_ones zero le = refl
  sum_of_ones (suc m) le = omega (arith, sum_of_ones m (omega (arith, le)), one_above m (omega (arith, le)))

comb_links : (n : ℕ) → 0 < n → link_count (comb_world n).network ≡ n - 1
unfolding link_count
comb_links zero some = absurd (omega (arith, some))
comb_links (suc k) some =
    let n = suc k in
    let last = count_none n (is_above (at_first n) k) (λ j lt. grind (arith, nat_tests)) in
    let counted = counted_above (at_first n) n (opened.lawful n (is_comb n) (first_pointer n) (turns n) (loops n) (joined n)) in
    omega (arith, ap (links_below (at_first n)) (comb_size n), counted, sum_of_ones n k (omega arith), last)

-- the comb has one link less than nodes, and each node but the last is linked to a higher node
pub comb_tree : (n : ℕ) → 4 ≤ n → n ≤ MAX_NODES
    → (link_count (comb_world n).network ≡ n - 1) × ((i : ℕ) → i + 1 < n → (j : ℕ) × (i < j) × ((configuration (comb_world n)).linked i j ≡ true))
unfolding opened.links
comb_tree n four few = (comb_links n (omega (arith, four)), λ i lt. let x = mate n i lt in (x.0, x.2, linked-from n i x.0 x.3))

-- ---- the registers before each phase of the run

-- before phase r, the first r of n nodes and the last r are married, node i to node n - 1 - i, and m is true at each;
-- the other nodes have null pointers and m false
abbrev paired : ℕ → ℕ → ℕ → Regs
paired n r i = cond (nat_lt i r || nat_le n (i + r)) (record { p = Some (n - (i + 1)); m = true }) no_regs

-- a node that points at j, with the given m
abbrev at : ℕ → Bool → Regs
at j m = record { p = Some j; m = m }

module _ (o : RosterValue) (s n : ℕ) (owned : (i : ℕ) → i < n → owns o (who.Student s) i ≡ true) where
  -- a run of a moves leads on from the comb with these registers
  abbrev Leads : ℕ → (ℕ → Regs) → Type 0
  Leads = Onward n (links n) o s owned

  -- ---- phase r, in which r marries b, the highest node that isn't married

  module _ (r b : ℕ) (sum : r + b + 1 ≡ n) (room : 2 * r + 2 ≤ n) where
    -- no node points at x, all nodes above b have pointers, and x and b have none
    abbrev Ready : (ℕ → Regs) → ℕ → Type 0
    Ready g x = (g x ≡ no_regs) × (g b ≡ no_regs) × ((j : ℕ) → j < n → (g j).p ≡ Some x → ⊥) × ((j : ℕ) → b < j → j < n → (g j).p ≡ None → ⊥)

    -- then x may seduce b
    courts : (g : ℕ → Regs) (a x : ℕ) → Points n x b → Ready g x → Leads a (put g x (at b false)) → Leads (suc a) g
    courts g a x to ready next =
        play n (links n) o s owned a x Rule.Seduction g (at b false) (omega (arith, y)) (λ c k. (
          may_seduce c k.lawful x b (grind (arith, nat_tests, k.p x)) (grind (arith, nat_tests, k.m x))
              (λ j e. let lt = pointer_in n (links n) g c k j x e in ready.2 j lt (sym (k.p j lt) ∙ e)) (wooed c k),
          seduces_greatest c k.lawful x b (wooed c k) (greatest c k),
          grind (arith, nat_tests, k.m x),
        )) next
      where
        y : (x < b) × (b < n)
        y = let z = points n x b to in (z.0, z.1)

        wooed : (c : Configuration) → Has n (links n) g c → IsCandidate c x b
        wooed c k = (k.linked x b ∙ linked-from n x b to, y.0, k.p b y.1 ∙ ap (λ (z : Regs). z.p) ready.1, k.m b y.1 ∙ ap (λ (z : Regs). z.m) ready.1)

        greatest : (c : Configuration) → Has n (links n) g c → (j : ℕ) → IsCandidate c x j → j ≤ b
        greatest c k j z = elim (cases_lt b j) [
          | inr le ↦ le
          | inl more ↦ let lt : j < n = omega (arith, (k.lawful.in_range x j z.0).1, k.size) in absurd (ready.3 j more lt (sym (k.p j lt) ∙ z.2))
        ]

    -- b marries r, which points at it, and both update
    wed : (g : ℕ → Regs) (a : ℕ) → g r ≡ at b false → g b ≡ no_regs
        → Leads a (put (put (put g b (at r false)) b (at r true)) r (at b true)) → Leads (suc (suc (suc a))) g
    wed g a groom bride next =
        play n (links n) o s owned _ b (Rule.Marriage r) g (at r false) (omega (arith, sum)) (grind (arith, nat_tests, may_marry, linked-from, halfway))
        (play n (links n) o s owned _ b Rule.Update _ (at r true) (omega (arith, sum)) (grind (arith, nat_tests, may_update, married-from))
        (play n (links n) o s owned _ r Rule.Update _ (at b true) (omega (arith, sum)) (grind (arith, nat_tests, may_update, married-from)) next))

    -- if r and b are the only nodes that aren't married, the phase takes four moves
    short : (a : ℕ) → 2 * r + 2 ≡ n → Leads a (paired n (suc r)) → Leads (suc (suc (suc (suc a)))) (paired n r)
    short a two next =
        courts (paired n r) _ r (halfway n r b room sum) (grind (arith, nat_tests)) (wed _ a (grind (arith, nat_tests)) (grind (arith, nat_tests))
        (alike n (links n) o s owned a _ _ (grind (arith, nat_tests)) next))

    ready_next : (x : ℕ) → x + 1 ≡ b → r < x → Ready (put (paired n r) r (at b false)) x
    ready_next x before more = grind (arith, nat_tests)

    -- if there are more, the node before b also seduces b, and abandons it at the end
    long : (a x : ℕ) → x + 1 ≡ b → r < x → Leads a (paired n (suc r)) → Leads (suc (suc (suc (suc (suc (suc a)))))) (paired n r)
    long a x before more next =
        courts (paired n r) _ r (halfway n r b room sum) (grind (arith, nat_tests))
        (courts _ _ x (next_to n x b (omega (arith, before, more, sum)) (omega (arith, before)) (omega (arith, before, sum))) (ready_next x before more)
        (wed _ _ (grind (arith, nat_tests)) (grind (arith, nat_tests))
        (play n (links n) o s owned a x Rule.Abandonment _ no_regs (omega (arith, before, sum)) (grind (arith, nat_tests, may_abandon))
        (alike n (links n) o s owned a _ _ (grind (arith, nat_tests)) next))))

  -- ---- the whole run

  -- the phases from r on, if f nodes aren't married
  phases : (f r : ℕ) → 2 * r + f ≡ n → Leads (3 * f - 2 - f % 2) (paired n r)
  phases zero r e = λ w world quiet k. stop _ o w refl
  phases (suc zero) r e = λ w world quiet k. stop _ o w refl
  phases (suc (suc zero)) r e = short r (r + 1) (omega (arith, e)) (omega (arith, e)) 0 (omega (arith, e)) (phases zero (suc r) (omega (arith, e)))
  phases (suc (suc (suc f))) r e =
      let more : suc (suc (suc (suc (suc (suc (3 * suc f - 2 - suc f % 2)))))) ≡ 3 * suc (suc (suc f)) - 2 - suc (suc (suc f)) % 2 = omega arith in
      subst (λ a. Leads a (paired n r)) more
      (long r (n - (r + 1)) (omega (arith, e)) (omega (arith, e)) _ (n - (r + 2)) (omega (arith, e)) (omega (arith, e))
      (phases (suc f) (suc r) (omega (arith, e))))

-- after all nodes but the last have updated and dropped their pointers, the last node updates
whole_run : (r : RosterValue) (s n : ℕ) → 2 ≤ n → n ≤ MAX_NODES → ((i : ℕ) → i < n → owns r (who.Student s) i ≡ true)
    → (a : ℕ) → 5 * n - 3 - n % 2 ≡ a → Applies r (comb_world n) a
whole_run r s n two few owned a total =
    clears n (is_comb n) (first_pointer n) (turns n) (loops n) (joined n) r s owned (n - 1) (omega arith) vain few
    (suc (3 * n - 2 - n % 2)) a (omega (arith, total, two))
    (play n (links n) r s owned _ (n - 1) Rule.Update _ no_regs (omega (arith, two)) (grind (arith, nat_tests, may_update, married-null))
    (alike n (links n) r s owned _ _ (paired n 0) (grind (arith, nat_tests)) (phases r s n owned n 0 (omega arith))))
  where
    vain : (i : ℕ) → i < n - 1 → (j : ℕ) × Points n i j × (j < n) × (i ≡ j → ⊥) × (holds (first_pointer n j) i ≡ false)
    vain i lt = let x = mate n i (omega (arith, lt)) in (x.0, x.3, x.1, (λ same. omega (arith, same, x)), (points n i x.0 x.3).2)

pub trees_reached_even : (r : RosterValue) (s k : ℕ) → 2 ≤ k → 2 * k ≤ MAX_NODES → ((i : ℕ) → i < 2 * k → owns r (who.Student s) i ≡ true)
    → Applies r (comb_world (2 * k)) (3 * (2 * k) + 2 * (2 * k - 1) - 1)
trees_reached_even r s k two few owned = whole_run r s (2 * k) (omega (arith, two)) few owned _ (omega (arith, two))

pub trees_reached_odd : (r : RosterValue) (s k : ℕ) → 2 ≤ k → 2 * k + 1 ≤ MAX_NODES → ((i : ℕ) → i < 2 * k + 1 → owns r (who.Student s) i ≡ true)
    → Applies r (comb_world (2 * k + 1)) (3 * (2 * k + 1) + 2 * (2 * k) - 2)
trees_reached_odd r s k two few owned = whole_run r s (2 * k + 1) (omega (arith, two)) few owned _ (omega (arith, two))
