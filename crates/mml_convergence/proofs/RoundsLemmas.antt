-- In four rounds at least two more nodes marry, unless no node is privileged afterwards. So four rounds for each two
-- nodes are enough. Rounds are called enough if no node is privileged after them. `PhasesLemmas` defines which
-- configurations are settled or hopeful.
use Rattle.std.proofs.Common.{◌≡◌, ℕ, zero, suc, ◌+◌, ◌*◌, ◌<◌, ◌≤◌, ◌⊎◌, inl, inr, true, false, not, List, [], ◌∷◌, Option, None, Some, sym, refl, ap, ◌∙◌, subst, arith}
use Rattle.std.specs.List.{list_all}
use Rattle.std.proofs.lemmas.{List.append-nil, Bool.or_right, Bool.both_ways, Bool.false_from_ne_true, Bool.cases_lt, Bool.cases_order, Bool.Decides.nat_tests}
use Rattle.mml_rules.specs.{declared.rule.Rule.Rule, Rules.is_married, Rules.guard, Matching.IsStable, Matching.IsMaximal, Configuration.Configuration, Configuration.IsLawful}
use Rattle.mml_rules.proofs.{RulesLemmas.married-null, RulesLemmas.married-at, MeaningLemmas.privileged-means}
use Rattle.mml_lab.specs.Rosters.{RosterValue}
use Rattle.mml_board.specs.{declared.event.Event.Event, World.World, World.size, World.configuration, World.IsWorld, Events.after, Runs.is_legal_list, Runs.world_of}
use Rattle.mml_board.proofs.{WorldLemmas.size-after, RunsLemmas.world_of-append, RunsLemmas.size-world_of}
use Rattle.mml_convergence.{specs.Runs.is_of_step, specs.Rounds.IsRound, specs.Rounds.Rounds, specs.Rounds.rounds_for, proofs.RestLemmas.stable_or_privileged}
use Rattle.mml_stable.proofs.MatchingLemmas.{maximal}
use Rattle.mml_convergence.proofs.MovesLemmas.{updates, marries, seduces, seduced, abandons, abandoned}
use Rattle.mml_convergence.proofs.MarriedCountLemmas.{married_count, apart, pair_counts, open_counts, single_counts, most}
use Rattle.mml_convergence.proofs.StagesLemmas.{Modest, Upward, Aware, Hopeful, Each, IsOpen, IsCourting, IsLone, IsRising, IsFacing, courted, self}
use Rattle.mml_convergence.proofs.PhasesLemmas.{Within, IsDawning, dawning_calm, dawning_brings, Any, IsSettled, IsAware, IsHopeful, IsReady, IsWooed, Never, modest_brings, modest_each}
use Rattle.mml_convergence.proofs.PhasesLemmas.{upward_brings, settled_stays, aware_calm, ready_calm, wooed_calm, aware_brings, hopeful_brings, courting_brings, wedding_brings}
use Rattle.mml_convergence.proofs.ServedLemmas.{IsRun, run_parts, run_end, stable_end, stays_over, round_brings, calm_round, calm_turn}

-- ---- no node is privileged, or two linked nodes aren't married

open_link : (c : Configuration) (i j : ℕ) → IsLawful c → c.linked i j ≡ true → is_married c i ≡ false → is_married c j ≡ false → (a : ℕ) × (b : ℕ) × IsOpen a b c
open_link c i j l linked ei ej = elim (cases_order i j) [ inl same ↦ absurd (apart c i j l linked same) | inr o ↦ grind (arith, nat_tests) ]

stable_or_open : (c : Configuration) → IsLawful c → IsHopeful c → IsStable c ⊎ ((a : ℕ) × (b : ℕ) × IsOpen a b c)
stable_or_open c l k = grind (arith, nat_tests, stable_or_privileged c, privileged-means, by_rule)
  where
    right : (i : ℕ) → i < c.size → c.m i ≡ is_married c i
    right i lt = grind (arith, k.aware.aware i lt, k.aware.settled.modest i lt)

    by_rule : (i : ℕ) → i < c.size → (r : Rule) → guard c i r ≡ true → (a : ℕ) × (b : ℕ) × IsOpen a b c
    by_rule i lt Rule.Update g = absurd (self (is_married c i) (sym (right i lt) ∙ updates c i g))
    by_rule i lt (Rule.Marriage j) g = grind (arith, nat_tests, marries, open_link, married-null, married-at)
    by_rule i lt Rule.Seduction g = let s = seduced c i g in grind (arith, nat_tests, seduces c i s.0 g s.1, open_link, married-null)
    by_rule i lt Rule.Abandonment g = grind (arith, nat_tests, abandoned c i g, abandons, married-at, open_link)

-- ---- a round, and what follows it

abbrev EndsStable : World → List Event → Type 0
EndsStable w es = IsStable (configuration (world_of w es))

-- b rounds are enough from each world of n nodes in which P holds
abbrev Enough : RosterValue → (n b : ℕ) → (Configuration → Type 0) → Type 0
Enough r n b P = (w : World) (es : List Event) → IsRun r w es → size w ≡ n → P (configuration w) → Rounds b w es → EndsStable w es

-- a list that begins with k rounds begins with any smaller number of rounds
fewer : (b k : ℕ) (w : World) (es : List Event) → b ≤ k → Rounds k w es → Rounds b w es
fewer zero k w es le x = tt
fewer (suc b) zero w es le x = absurd (omega (arith, le))
fewer (suc b) (suc k) w es le x = (x.0, x.1, x.2, x.3, fewer b k (world_of w x.0) x.1 (omega (arith, le)) x.4)

-- if P leads to Q in a round, and a rounds are enough from Q, a + 1 rounds are enough from P
after_round : (r : RosterValue) (n a : ℕ) (P Q : Configuration → Type 0)
    → ((w : World) (fs : List Event) → IsRun r w fs → IsRound w fs → size w ≡ n → P (configuration w) → Q (configuration (world_of w fs)))
    → Enough r n a Q → Enough r n (suc a) P
after_round r n a P Q brings next w es run here p x =
    let parts = run_parts r w x.0 x.1 (subst (λ z. IsRun r w z) x.2 run) in
    let same : world_of (world_of w x.0) x.1 ≡ world_of w es = sym (ap (λ z. world_of w z) x.2 ∙ world_of-append w x.0 x.1) in
    subst (λ z. IsStable (configuration z)) same
    (next (world_of w x.0) x.1 parts.1 (size-world_of w x.0 ∙ here) (brings w x.0 parts.0 x.3 here p) x.4)

-- at least m nodes are married, and P holds
abbrev AtLeast : ℕ → (Configuration → Type 0) → Configuration → Type 0
AtLeast m P c = (m ≤ married_count c) × P c

-- if a rounds are enough when two linked nodes aren't married, they are enough from each hopeful configuration
from_hopeful : (r : RosterValue) (n m a : ℕ) → ((x y : ℕ) → Enough r n a (AtLeast m (IsReady x y))) → Enough r n a (AtLeast m IsHopeful)
from_hopeful r n m a next w es run here p rounds = elim (stable_or_open (configuration w) run.world.network.lawful p.1) [
  | inl stable ↦ stable_end r w es run stable
  | inr o ↦ next o.0 o.1 w es run here (p.0, record { before = p.1; link = o.2 }) rounds
]

-- if at most one node isn't married, no two linked nodes aren't
none_ready : (r : RosterValue) (n m a x y : ℕ) → n ≤ m + 1 → Enough r n a (AtLeast m (IsReady x y))
none_ready r n m a x y room w es run here p rounds =
    let link = p.1.link in
    let two = open_counts (configuration w) x y run.world.network.lawful link.linked link.low link.high in
    absurd (omega (arith, two, p.0, here, room))

-- if m is false at each node that isn't married, a round leads to a settled configuration
settled_after : (r : RosterValue) (w : World) (fs : List Event) → IsRun r w fs → IsRound w fs → Each Modest (configuration w)
    → IsSettled (configuration (world_of w fs))
settled_after r w fs run round p =
    let upward = round_brings (Each Modest) Upward modest_each upward_brings r w fs run round p in
    record { modest = stays_over (Each Modest) modest_each r w fs run p; upward = upward }

-- `enough` says that b rounds are enough if at least m + 2 nodes are married
module _ (r : RosterValue) (n m b : ℕ) (enough : Enough r n b (AtLeast (m + 2) IsSettled)) where
  -- if P leads in a round to at least m + 2 married nodes or to Q, it is enough that a rounds are enough from Q
  one_round : (a : ℕ) (P Q : Configuration → Type 0) → b ≤ a → ((c : Configuration) → P c → Each Modest c)
      → ((w : World) (fs : List Event) → IsRun r w fs → IsRound w fs → size w ≡ n → P (configuration w) → Within m Q (configuration (world_of w fs)))
      → Enough r n a (AtLeast m (λ c. IsSettled c × Q c)) → Enough r n (suc a) P
  one_round a P Q le modest brings next =
      after_round r n a P (λ c. IsSettled c × Within m Q c)
      (λ w fs run round here p. (settled_after r w fs run round (modest (configuration w) p), brings w fs run round here p))
      (λ w es run here p rounds. elim p.1 [
        | inl more ↦ enough w es run here (more, p.0) (fewer b a w es le rounds)
        | inr q ↦ next w es run here (q.0, (p.0, q.1)) rounds
      ])

  -- if some node with a null pointer has a suitor, b + 1 rounds are enough
  from_wooed : (s t : ℕ) → Enough r n (suc b) (AtLeast m (IsWooed s t))
  from_wooed s t =
      one_round b (AtLeast m (IsWooed s t)) (λ c. IsWooed s t c × Never c) (omega arith) (λ c p. p.1.before.aware.settled.modest)
      (λ w fs run round here p.
      let l = run.world.network.lawful in
      calm_turn m (IsWooed s t) Never t (wooed_calm s t) (wedding_brings s t) r w fs run round (l.in_range s t (l.to_linked s t p.1.pair.suitor)).1 (inr p))
      (λ w es run here p. absurd p.1.1.1)

  -- if two linked nodes aren't married in a hopeful configuration, b + 2 rounds are enough
  from_ready : (x y : ℕ) → Enough r n (suc (suc b)) (AtLeast m (IsReady x y))
  from_ready x y =
      one_round (suc b) (AtLeast m (IsReady x y)) (λ c. IsReady x y c × IsCourting c) (omega arith) (λ c p. p.1.before.aware.settled.modest)
      (λ w fs run round here p.
      let range = run.world.network.lawful.in_range x y p.1.link.linked in
      calm_turn m (IsReady x y) IsCourting x (ready_calm x y) (courting_brings x y) r w fs run round range.0 (inr p))
      (λ w es run here p.
      let before = p.1.1.0.before in
      let top = courted (configuration w) run.world.network.lawful before.aware.settled.upward before.hopeful p.1.1.1 in
      from_wooed top.0 top.1 w es run here (p.0, record { before = before; pair = top.2 }))

  from_aware : (a : ℕ) → b ≤ a → Enough r n a (AtLeast m IsHopeful) → Enough r n (suc a) (AtLeast m IsAware)
  from_aware a le next =
      one_round a (AtLeast m IsAware) (λ c. IsAware c × Each Hopeful c) le (λ c p. p.1.settled.modest)
      (λ w fs run round here p. calm_round m IsAware Hopeful aware_calm hopeful_brings r w fs run round (inr p))
      (λ w es run here p. next w es run here (p.0, record { aware = p.1.1.0; hopeful = p.1.1.1 }))

  from_settled : (a : ℕ) → b ≤ a → Enough r n a (AtLeast m IsAware) → Enough r n (suc a) (AtLeast m IsSettled)
  from_settled a le next =
      one_round a (AtLeast m IsSettled) (λ c. IsSettled c × Each Aware c) le (λ c p. p.1.modest)
      (λ w fs run round here p. calm_round m IsSettled Aware (λ c chosen l h calm p. settled_stays c chosen l h p) aware_brings r w fs run round (inr p))
      (λ w es run here p. next w es run here (p.0, record { settled = p.1.0; aware = p.1.1.1 }))

-- no world has more married nodes than nodes
none_settled : (r : RosterValue) (n m : ℕ) → n < m → Enough r n 0 (AtLeast m IsSettled)
none_settled r n m less w es run here p rounds = absurd (omega (arith, less, here, p.0, most (configuration w)))

-- if at most d nodes aren't married, `rounds_for d + 1` rounds are enough
settled_runs : (d : ℕ) (r : RosterValue) (n m : ℕ) → n ≤ m + d → Enough r n (suc (rounds_for d)) (AtLeast m IsSettled)
settled_runs zero r n m room =
    from_settled r n m 0 (none_settled r n (m + 2) (omega (arith, room))) 0 (omega arith) (λ w es run here p.
    let full : Each Hopeful (configuration w) =
    λ i lt free. absurd (omega (arith, single_counts (configuration w) i lt free, p.0, here, room)) in
    from_hopeful r n m 0 (λ x y. none_ready r n m 0 x y (omega (arith, room))) w es run here
    (p.0, record { aware = p.1; hopeful = full }))
settled_runs (suc zero) r n m room =
    let none = none_settled r n (m + 2) (omega (arith, room)) in
    from_settled r n m 0 none 1 (omega arith)
    (from_aware r n m 0 none 0 (omega arith) (from_hopeful r n m 0 (λ x y. none_ready r n m 0 x y (omega (arith, room)))))
settled_runs (suc (suc d)) r n m room =
    let b = suc (rounds_for d) in
    let enough = settled_runs d r n (m + 2) (omega (arith, room)) in
    let aware = from_aware r n m b enough (suc (suc b)) (omega arith) (from_hopeful r n m (suc (suc b)) (from_ready r n m b enough)) in
    let settled = from_settled r n m b enough (suc (suc (suc b))) (omega arith) aware in
    λ w es run here p rounds. settled w es run here p (fewer (suc (suc (suc (suc b)))) (suc (rounds_for (suc (suc d)))) w es (omega arith) rounds)

-- ---- if no node is married

record IsDawn (c : Configuration) : Type 0 where
  low : ℕ
  high : ℕ
  linked : c.linked low high ≡ true
  up : low < high
  either : IsRising c ⊎ IsFacing low high c

-- if a node points at another, `IsDawn` holds: some node points at a higher node, or a node with a null pointer has a
-- higher neighbour that points at it or at no node
descend : (n x z : ℕ) (c : Configuration) → IsLawful c → x < n → c.p x ≡ Some z → IsDawn c
descend zero x z c l room e = absurd (omega arith)
descend (suc n) x z c l room e = go (λ y. descend n z y c l) (c.p z) refl (cases_order x z)
  where
    linked : c.linked x z ≡ true
    linked = l.to_linked x z e

    go : ((y : ℕ) → z < n → c.p z ≡ Some y → IsDawn c) → (o : Option ℕ) → c.p z ≡ o → (x ≡ z) ⊎ ((x < z) ⊎ (z < x)) → IsDawn c
    go further o f (inl same) = absurd (apart c x z l linked same)
    go further o f (inr (inl up)) = record { low = x; high = z; linked = linked; up = up; either = inl (record { who = x; whom = z; points = e; up = up }) }
    go further None f (inr (inr down)) =
        let back = l.symmetric x z linked in
        record { low = z; high = x; linked = back; up = down; either = inr (record { linked = back; up = down; null = f; either = inr e }) }
    go further (Some y) f (inr (inr down)) = further y (omega (arith, room, down)) f

stable_or_dawn : (c : Configuration) → IsLawful c → Each Modest c → IsLone c → IsStable c ⊎ IsDawn c
stable_or_dawn c l modest lone = elim (stable_or_privileged c) [
  | inl stable ↦ inl stable
  | inr x ↦ let move = (privileged-means c x.0 l).0 x.2 in inr (by_rule x.0 x.1 move.0 move.1)
]
  where
    by_rule : (i : ℕ) → i < c.size → (r : Rule) → guard c i r ≡ true → IsDawn c
    by_rule i lt Rule.Update g = absurd (self (is_married c i) (lone i ∙ sym (modest i lt (lone i)) ∙ updates c i g))
    by_rule i lt (Rule.Marriage j) g = let m = marries c i j g in descend (suc j) j i c l (omega arith) m.suitor
    by_rule i lt Rule.Seduction g = let s = seduced c i g in grind (arith, nat_tests, seduces c i s.0 g s.1)
    by_rule i lt Rule.Abandonment g = let s = abandoned c i g in descend (suc i) i s.0 c l (omega arith) s.1

-- ---- from any world

-- m is false at each node that isn't married; two nodes are married, or `IsDawning` holds
abbrev IsEarly : (x z : ℕ) → Configuration → Type 0
IsEarly x z c = Each Modest c × Within 0 (IsDawning x z) c

from_early : (d : ℕ) (r : RosterValue) (x z : ℕ) → x < suc (suc d) → Enough r (suc (suc d)) (suc (suc (suc (rounds_for d)))) (IsEarly x z)
from_early d r x z x_in =
    let b = suc (rounds_for d) in
    let enough = settled_runs d r (suc (suc d)) 2 (omega arith) in
    one_round r (suc (suc d)) 0 b enough (suc b) (IsEarly x z) (λ c. IsDawning x z c × IsRising c) (omega arith) (λ c p. p.0)
    (λ w fs run round here p.
    calm_turn 0 (IsDawning x z) IsRising x (dawning_calm x z) (dawning_brings x z) r w fs run round (omega (arith, x_in, here)) p.1)
    (λ w es run here p.
    let free = p.1.1.0.lone in
    let rising = p.1.1.1 in
    let hopeful : IsHopeful (configuration w) = record {
      aware = record { settled = p.1.0; aware = λ i lt on. absurd (both_ways _ (free i) on) };
      hopeful = λ i lt alone j e. free j;
    } in
    let courting : IsCourting (configuration w) = record { who = rising.who; whom = rising.whom; free = free rising.who; points = rising.points } in
    let top = courted (configuration w) run.world.network.lawful hopeful.aware.settled.upward hopeful.hopeful courting in
    from_wooed r (suc (suc d)) 0 b enough top.0 top.1 w es run here (p.0, record { before = hopeful; pair = top.2 }))

-- after a first round, m is false at each node that isn't married
from_any : (r : RosterValue) (n a : ℕ) → ((x z : ℕ) → x < z → z < n → Enough r n a (IsEarly x z)) → Enough r n (suc a) Any
from_any r n a next =
    after_round r n a Any (Each Modest) (λ w fs run round here p. round_brings Any Modest (λ c chosen l h p. p) modest_brings r w fs run round p)
    (λ w es run here modest rounds. elim (cases_lt (married_count (configuration w)) 2) [
      | inr two ↦ next 0 1 (omega arith) (omega (arith, two, here, most (configuration w))) w es run here (modest, inl two) rounds
      | inl less ↦
          let l = run.world.network.lawful in
          let lone : IsLone (configuration w) =
          λ i. false_from_ne_true (is_married (configuration w) i) (λ on. omega (arith, pair_counts (configuration w) i l on, less)) in
          elim (stable_or_dawn (configuration w) l modest lone) [
            | inl stable ↦ stable_end r w es run stable
            | inr d ↦
                next d.low d.high d.up (omega (arith, (l.in_range d.low d.high d.linked).1, here)) w es run here
                (modest, inr (omega arith, record { modest = modest; lone = lone; either = d.either })) rounds
          ]
    ])

from_start : (n k : ℕ) (r : RosterValue) → rounds_for n ≤ k → Enough r n k Any
from_start zero k r room w es run here p rounds = λ i lt. absurd (omega (arith, here, size-world_of w es, lt))
from_start (suc zero) k r room w es run here p rounds =
    from_any r 1 0 (λ x z up lt. absurd (omega (arith, up, lt))) w es run here p (fewer 1 k w es (omega (arith, room)) rounds)
from_start (suc (suc d)) k r room w es run here p rounds =
    let early = from_any r (suc (suc d)) (suc (suc (suc (rounds_for d)))) (λ x z up lt. from_early d r x z (omega (arith, up, lt))) in
    early w es run here p (fewer (suc (suc (suc (suc (rounds_for d))))) k w es (omega (arith, room)) rounds)

-- after 4 rounds for each two nodes, and 1 for a node left over, no node is privileged
pub rounds_end : (r : RosterValue) (w : World) (es : List Event) (k : ℕ) → IsRun r w es → rounds_for (size w) ≤ k → Rounds k w es → EndsStable w es
rounds_end r w es k run room rounds = from_start (size w) k r room w es run refl tt rounds

-- the bound `rounds_for` is at most two rounds for each node
pub most_rounds : (n : ℕ) → rounds_for n ≤ 2 * n
most_rounds zero = omega arith
most_rounds (suc zero) = omega arith
most_rounds (suc (suc n)) = let rest = most_rounds n in omega (arith, rest)

-- for an even number of nodes, the bound is two rounds for each node
pub for_even : (k : ℕ) → rounds_for (2 * k) ≡ 4 * k
for_even zero = refl
for_even (suc k) = grind (arith, nat_tests, for_even k)

-- for an odd number of nodes, the bound is one round less than two for each node
pub for_odd : (k : ℕ) → rounds_for (2 * k + 1) ≡ 4 * k + 1
for_odd zero = refl
for_odd (suc k) = grind (arith, nat_tests, for_odd k)

-- after two rounds for each node, no node is privileged, and each link has an end in a pair
pub rounds_bounded : (r : RosterValue) (w : World) (es : List Event) → IsWorld w → is_legal_list r w es ≡ true → list_all is_of_step es ≡ true
    → Rounds (2 * size w) w es
    → IsStable (configuration (world_of w es)) × IsMaximal (configuration (world_of w es))
rounds_bounded r w es k legal of_step rounds =
    let run : IsRun r w es = record { world = k; legal = legal; of_step = of_step } in
    let stable = rounds_end r w es (2 * size w) run (most_rounds (size w)) rounds in
    (stable, maximal (configuration (world_of w es)) (run_end r w es run).network.lawful stable)

-- if some node is privileged after k rounds, k is less than the bound
pub rounds_fewer : (r : RosterValue) (w : World) (es : List Event) (k : ℕ) → IsWorld w → is_legal_list r w es ≡ true → list_all is_of_step es ≡ true
    → Rounds k w es → ¬ IsStable (configuration (world_of w es)) → k < rounds_for (size w)
rounds_fewer r w es k world legal of_step rounds goes_on =
    omega (arith, λ (room : rounds_for (size w) ≤ k). goes_on (rounds_end r w es k (record { world = world; legal = legal; of_step = of_step }) room rounds))

-- ---- if no node is privileged, any number of empty rounds can follow

last_round : (w : World) (es : List Event) → IsStable (configuration (world_of w es)) → IsRound w es
last_round w [] stable i lt = ap not (stable i lt)
last_round w (e ∷ es) stable i lt = or_right _ _ (or_right _ _ (last_round (after w e) es stable i (omega (arith, lt, size-after w e))))

-- if no node is privileged after a list of events, the list begins with k rounds for every k
pub stable_rounds : (k : ℕ) (w : World) (es : List Event) → IsStable (configuration (world_of w es)) → Rounds k w es
stable_rounds zero w es stable = tt
stable_rounds (suc k) w es stable = (es, [], sym (append-nil es), last_round w es stable, stable_rounds k (world_of w es) [] stable)
