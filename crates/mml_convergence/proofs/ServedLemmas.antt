-- Grants, releases and closes: which facts they keep, and what holds after a round of them.
use Rattle.std.proofs.Common.{◌≡◌, ℕ, ◌+◌, ◌<◌, ◌≤◌, inl, inr, true, ◌&&◌, List, [], ◌∷◌, ◌++◌, Option, None, Some, is_some, sym, refl, subst, arith}
use Rattle.std.specs.List.{list_all}
use Rattle.std.proofs.lemmas.Bool.{and_parts, or_cases, not-true, false≢true, both_ways, cases_lt, Decides.nat_tests}
use Rattle.mml_rules.specs.{declared.rule.Rule.Rule, Configuration.Configuration, Matching.IsStable}
use Rattle.mml_lab.specs.Rosters.{RosterValue}
use Rattle.mml_board.specs.{declared.event.Event.Event, World.World, World.size, World.configuration, World.chosen_at, World.IsWorld, Runs.is_legal_list, Runs.world_of}
use Rattle.mml_board.specs.Events.{is_legal, is_chosen, after}
use Rattle.mml_board.proofs.{WorldLemmas.closed-step, WorldLemmas.after-world, ClausesLemmas.legal_possible, RunsLemmas.size-world_of}
use Rattle.mml_convergence.specs.{Runs.is_of_step, Moves.is_close, Rounds.is_served, Rounds.IsRound}
use Rattle.mml_convergence.proofs.{RestLemmas.stable_final, MarriedCountLemmas.married_count, StagesLemmas.Each}
use Rattle.mml_convergence.proofs.PhasesLemmas.{Stays, Brings, Within, CalmStays, CalmBrings, calm_stays, calm_brings}
use Rattle.mml_board.specs.declared.event.Event.TheVariants as event

-- a legal list of grants, releases and closes from a lawful world
pub record IsRun (r : RosterValue) (w : World) (es : List Event) : Type 0 where
  pub world : IsWorld w
  pub legal : is_legal_list r w es ≡ true
  pub of_step : list_all is_of_step es ≡ true

-- the first event of a run is legal
pub first_legal : (r : RosterValue) (w : World) (e : Event) (es : List Event) → IsRun r w (e ∷ es) → is_legal r w e ≡ true
first_legal r w e es k = (and_parts (is_legal r w e) (is_legal_list r (after w e) es) k.legal).0

-- the first event of a run is a grant, a release or a close
pub first_of_step : (r : RosterValue) (w : World) (e : Event) (es : List Event) → IsRun r w (e ∷ es) → is_of_step e ≡ true
first_of_step r w e es k = (and_parts (is_of_step e) (list_all is_of_step es) k.of_step).0

run_on : (r : RosterValue) (w : World) (e : Event) (es : List Event) → IsRun r w (e ∷ es) → IsRun r (after w e) es
run_on r w e es k =
    let world = after-world w e k.world (legal_possible r w e (first_legal r w e es k)) in
    record { world = world; legal = (and_parts _ _ k.legal).1; of_step = (and_parts _ _ k.of_step).1 }

-- if two joined lists are a run, each of them is a run
pub run_parts : (r : RosterValue) (w : World) (es fs : List Event) → IsRun r w (es ++ fs) → IsRun r w es × IsRun r (world_of w es) fs
run_parts r w [] fs k = (record { world = k.world; legal = refl; of_step = refl }, k)
run_parts r w (e ∷ es) fs k = grind (arith, nat_tests, run_parts r (after w e) es fs (run_on r w e (es ++ fs) k))

-- a run ends in a lawful world
pub run_end : (r : RosterValue) (w : World) (es : List Event) → IsRun r w es → IsWorld (world_of w es)
run_end r w [] k = k.world
run_end r w (e ∷ es) k = run_end r (after w e) es (run_on r w e es k)

-- if no node is privileged before a run, none is privileged after it
pub stable_end : (r : RosterValue) (w : World) (es : List Event) → IsRun r w es → IsStable (configuration w) → IsStable (configuration (world_of w es))
stable_end r w [] k stable = stable
stable_end r w (e ∷ es) k stable = absurd (both_ways (is_legal r w e) (stable_final r w e k.world stable (first_of_step r w e es k)) (first_legal r w e es k))

-- ---- facts that stay true

stays_after : (P : Configuration → Type 0) → Stays P → (w : World) (e : Event) → IsWorld w → is_of_step e ≡ true → P (configuration w) → P (configuration (after w e))
stays_after P stays w (event.Grant s i rule) k of_step p = p
stays_after P stays w (event.Release i) k of_step p = p
stays_after P stays w event.Close k of_step p = subst P (sym (closed-step w k.choices)) (stays (configuration w) (chosen_at w.chosen) k.network.lawful k.hold p)
stays_after P stays w _ k of_step p = absurd (false≢true of_step)

-- a fact that stays true in each step stays true over a run
pub stays_over : (P : Configuration → Type 0) → Stays P → (r : RosterValue) (w : World) (es : List Event) → IsRun r w es → P (configuration w)
    → P (configuration (world_of w es))
stays_over P stays r w [] k p = p
stays_over P stays r w (e ∷ es) k p = stays_over P stays r (after w e) es (run_on r w e es k) (stays_after P stays w e k.world (first_of_step r w e es k) p)

-- ---- what holds after a turn

both_stay : (P Q : Configuration → Type 0) (i : ℕ) → Stays P → Brings P Q i → (r : RosterValue) (w : World) (es : List Event) → IsRun r w es
    → P (configuration w) → Q (configuration w) → Q (configuration (world_of w es))
both_stay P Q i stays b r w es k p q =
    (stays_over (λ c. P c × Q c) (λ c chosen l h x. (stays c chosen l h x.0, b.stays c chosen l h x.0 x.1)) r w es k (p, q)).1

moved_after : (P Q : Configuration → Type 0) (i : ℕ) → Brings P Q i → (w : World) (e : Event) → IsWorld w → (is_close e && is_chosen w i) ≡ true
    → P (configuration w) → Q (configuration (after w e))
moved_after P Q i b w event.Close k e p = go (chosen_at w.chosen i) refl e
  where
    go : (o : Option Rule) → chosen_at w.chosen i ≡ o → is_some o ≡ true → Q (configuration (after w event.Close))
    go None f some = absurd (false≢true some)
    go (Some rule) f some = subst Q (sym (closed-step w k.choices)) (b.moves (configuration w) (chosen_at w.chosen) rule k.network.lawful k.hold p f)
moved_after P Q i b w _ k e p = absurd (false≢true e)

served : (P Q : Configuration → Type 0) (i : ℕ) → Stays P → Brings P Q i → (r : RosterValue) (w : World) (es : List Event) → IsRun r w es
    → P (configuration w) → is_served i w es ≡ true → Q (configuration (world_of w es))
served P Q i stays b r w [] k p turn = b.idle (configuration w) k.world.network.lawful p (not-true _ turn)
served P Q i stays b r w (e ∷ es) k p turn =
    let next = stays_after P stays w e k.world (first_of_step r w e es k) p in
    let on = run_on r w e es k in
    let idle = b.idle (configuration w) k.world.network.lawful p in
    let moved = moved_after P Q i b w e k.world in
    let now = both_stay P Q i stays b r w (e ∷ es) k p in
    let then = both_stay P Q i stays b r (after w e) es on next in
    grind (arith, nat_tests, or_cases, not-true, idle, moved, now, then, served P Q i stays b r (after w e) es on next)

-- ---- what holds after a round

-- after a round, Q i holds of each node i, if a turn of i makes it true
pub round_brings : (P : Configuration → Type 0) (Q : ℕ → Configuration → Type 0) → Stays P → ((i : ℕ) → Brings P (λ c. i < c.size → Q i c) i)
    → (r : RosterValue) (w : World) (es : List Event) → IsRun r w es → IsRound w es → P (configuration w) → Each Q (configuration (world_of w es))
round_brings P Q stays b r w es k round p i lt =
    served P (λ c. i < c.size → Q i c) i stays (b i) r w es k p (round i (omega (arith, lt, size-world_of w es))) lt

-- after a round, P and Q hold if P stays true and a turn of i makes Q true, or the number of married nodes has grown by
-- two
pub calm_turn : (n : ℕ) (P Q : Configuration → Type 0) (i : ℕ) → CalmStays P → CalmBrings P Q i
    → (r : RosterValue) (w : World) (es : List Event) → IsRun r w es → IsRound w es → i < size w → Within n P (configuration w)
    → Within n (λ c. P c × Q c) (configuration (world_of w es))
calm_turn n P Q i stays b r w es k round i_in p =
    served (Within n P) (Within n (λ c. P c × Q c)) i (calm_stays n P stays) (calm_brings n P Q i stays b) r w es k p (round i i_in)

-- if fewer than n + 2 nodes are married, `Within n P` says that at least n are, and that P holds
sure : (n : ℕ) (P : Configuration → Type 0) (c : Configuration) → married_count c < n + 2 → Within n P c → (n ≤ married_count c) × P c
sure n P c less (inl more) = absurd (omega (arith, less, more))
sure n P c less (inr x) = x

-- after a round, P holds, and Q i of each node i, or the number of married nodes has grown by two
pub calm_round : (n : ℕ) (P : Configuration → Type 0) (Q : ℕ → Configuration → Type 0) → CalmStays P → ((i : ℕ) → CalmBrings P (λ c. i < c.size → Q i c) i)
    → (r : RosterValue) (w : World) (es : List Event) → IsRun r w es → IsRound w es → Within n P (configuration w)
    → Within n (λ c. P c × Each Q c) (configuration (world_of w es))
calm_round n P Q stays b r w es k round p = elim (cases_lt (married_count (configuration (world_of w es))) (n + 2)) [
  | inr more ↦ inl more
  | inl less ↦
      let here = sure n P (configuration (world_of w es)) less (stays_over (Within n P) (calm_stays n P stays) r w es k p) in
      inr (here.0, (here.1, λ i lt. (sure n (λ c. P c × (i < c.size → Q i c)) (configuration (world_of w es)) less (turn i lt)).1.1 lt))
]
  where
    turn : (i : ℕ) → i < size (world_of w es) → Within n (λ c. P c × (i < c.size → Q i c)) (configuration (world_of w es))
    turn i lt = calm_turn n P (λ c. i < c.size → Q i c) i stays (b i) r w es k round (omega (arith, lt, size-world_of w es)) p
