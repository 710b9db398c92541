-- The counted rounds are rounds of a run, and a run that ends with a privileged node has no more rounds than are
-- counted: by the end of each of its rounds, one more counted round has ended. The rounds of a run of grants, releases
-- and closes are within the bound for rounds. A round is a list of events in which each node has its turn: at some point
-- it isn't privileged, or a close applies its move. A node is privileged if some rule is enabled there. A node is served
-- as soon as it has had its turn in a round.
use Rattle.std.proofs.lemmas.{List.append-nil, Bool.or_right, Bool.eq-eqb, Bool.not-true, Bool.both_ways, Bool.false_from_ne_true, Bool.Decides.nat_tests}
use Rattle.std.proofs.Common.{◌≡◌, ℕ, zero, suc, ◌+◌, ◌≤◌, Bool, true, false, not, cond, List, [], ◌∷◌, ◌++◌, refl, sym, ap, ◌∙◌, subst, arith, append_assoc, one-add}
use Rattle.mml_rules.specs.Matching.{IsStable}
use Rattle.mml_lab.specs.Rosters.{RosterValue}
use Rattle.mml_board.specs.{declared.event.Event.Event, World.World, World.size, World.configuration, Events.after, Events.is_legal, Runs.world_of}
use Rattle.mml_board.proofs.RunsLemmas.{world_of-append, size-world_of}
use Rattle.mml_convergence.specs.Rounds.{is_served, IsRound, Rounds, rounds_for}
use Rattle.mml_convergence.proofs.{SumsLemmas.count_none, SumsLemmas.count_some, RestLemmas.stable_final, RoundsLemmas.rounds_end, RoundsLemmas.rounds_fewer}
use Rattle.mml_convergence.proofs.ServedLemmas.{IsRun, run_parts, first_legal, first_of_step, stable_end}
use Rattle.mml_tally.specs.Rounds.{is_round, rounds_from, rounds_in}

-- ---- the counted rounds are rounds

round_is : (w : World) (es : List Event) → is_round w es ≡ true → IsRound w es
round_is w es h i lt = grind (arith, nat_tests, count_some (size w) i (λ j. not (is_served j w es)) lt)

-- the events gs and es are 1 + m rounds if gs is a round, and es are m rounds after it
either : (w : World) (gs es : List Event) (m n : ℕ) (b : Bool) → (b ≡ true → IsRound w gs) → Rounds m (world_of w gs) es → Rounds n w (gs ++ es)
    → Rounds (cond b (1 + m) n) w (gs ++ es)
either w gs es m n true round ended goes_on = rw one-add (gs, es, refl, round refl, ended)
either w gs es m n false round ended goes_on = goes_on

pub rounds_there : (w : World) (fs es : List Event) → Rounds (rounds_from w fs es) w (fs ++ es)
rounds_there w fs [] = tt
rounds_there w fs (e ∷ es) =
    let gs = fs ++ e ∷ [] in
    subst (λ l. Rounds (rounds_from w fs (e ∷ es)) w l) (append_assoc fs (e ∷ []) es)
    (either w gs es _ _ (is_round w gs) (round_is w gs) (rounds_there (world_of w gs) [] es) (rounds_there w gs es))

-- ---- the last event ends at most one round

one_more : (w : World) (fs es : List Event) (e : Event) → rounds_from w fs (es ++ e ∷ []) ≤ 1 + rounds_from w fs es
one_more w fs [] e = grind (arith, nat_tests, is_round w (fs ++ e ∷ []))
one_more w fs (f ∷ es) e = let gs = fs ++ f ∷ [] in grind (arith, nat_tests, is_round w gs, one_more (world_of w gs) [] es e, one_more w gs es e)

last_of : (e : Event) (es : List Event) → (fs : List Event) × (f : Event) × (e ∷ es ≡ fs ++ f ∷ [])
last_of e [] = ([], e, refl)
last_of e (d ∷ es) = let rest = last_of d es in (e ∷ rest.0, rest.1, ap (λ l. e ∷ l) rest.2)

-- ---- the bound

pub run_within : (r : RosterValue) (w : World) (es : List Event) → IsRun r w es → rounds_in w es ≤ rounds_for (size w)
run_within r w [] run = omega arith
run_within r w (e ∷ es) run =
    let cut = last_of e es in
    let parts = run_parts r w cut.0 (cut.1 ∷ []) (subst (λ l. IsRun r w l) cut.2 run) in
    let v = world_of w cut.0 in
    let fewer = rounds_fewer r w cut.0 (rounds_in w cut.0) parts.0.world parts.0.legal parts.0.of_step (rounds_there w [] cut.0) (λ stable.
    both_ways (is_legal r v cut.1) (stable_final r v cut.1 parts.1.world stable (first_of_step r v cut.1 [] parts.1)) (first_legal r v cut.1 [] parts.1)) in
    omega (arith, fewer, one_more w [] cut.0 cut.1, ap (rounds_in w) cut.2)

pub run_rests : (r : RosterValue) (w : World) (es : List Event) → IsRun r w es → rounds_for (size w) ≤ rounds_in w es → IsStable (configuration (world_of w es))
run_rests r w es run most = rounds_end r w es (rounds_in w es) run most (rounds_there w [] es)

-- ---- a node that is served within some events is served within more events

served_earlier : (i : ℕ) (w : World) (es fs : List Event) → is_served i (world_of w es) fs ≡ true → is_served i w (es ++ fs) ≡ true
served_earlier i w [] fs served = served
served_earlier i w (e ∷ es) fs served = or_right _ _ (or_right _ _ (served_earlier i (after w e) es fs served))

-- ---- the first round that is counted

-- if the events gs aren't a round, and the events gs and cs are, a round is counted within cs, and others after it
first_counted : (k : ℕ) (w : World) (all gs cs ds : List Event) → all ≡ gs ++ cs → is_round w all ≡ true → is_round w gs ≡ false
    → ((front rest : List Event) → all ≡ front ++ rest → k ≤ rounds_in (world_of w front) (rest ++ ds)) → suc k ≤ rounds_from w gs (cs ++ ds)
first_counted k w all gs [] ds same round not_yet later = absurd (both_ways (is_round w gs) not_yet (ap (is_round w) (sym (append-nil gs) ∙ sym same) ∙ round))
first_counted k w all gs (c ∷ cs) ds same round not_yet later =
    let next = same ∙ sym (append_assoc gs (c ∷ []) cs) in
    let waits = λ (now : is_round w (gs ++ c ∷ []) ≡ false). first_counted k w all (gs ++ c ∷ []) cs ds next round now later in
    grind (arith, nat_tests, is_round w (gs ++ c ∷ []), later (gs ++ c ∷ []) cs next, waits)

-- ---- all rounds

-- if k rounds follow one another after the events es, at least k rounds are counted in all events
pub rounds_most : (k : ℕ) (r : RosterValue) (w : World) (all es fs : List Event) → all ≡ es ++ fs → IsRun r w all → ¬ IsStable (configuration (world_of w all))
    → Rounds k (world_of w es) fs → k ≤ rounds_in w all
rounds_most zero r w all es fs is run goes_on rounds = omega arith
rounds_most (suc k) r w all es fs is run goes_on rounds =
    let cs = rounds.0 in
    let ds = rounds.1 in
    let whole : all ≡ (es ++ cs) ++ ds = is ∙ ap (λ l. es ++ l) rounds.2 ∙ sym (append_assoc es cs ds) in
    let round : is_round w (es ++ cs) ≡ true = grind (arith, nat_tests, eq-eqb, count_none, size-world_of, served_earlier) in
    let begun = false_from_ne_true (is_round w []) (λ first. goes_on (stable_end r w all run (λ i lt. not-true _ (round_is w [] first i lt)))) in
    subst (λ l. suc k ≤ rounds_in w l) (sym whole) (first_counted k w (es ++ cs) [] (es ++ cs) ds refl round begun (λ front rest cut.
    let v = world_of w front in
    let split : all ≡ front ++ (rest ++ ds) = whole ∙ ap (λ l. l ++ ds) cut ∙ append_assoc front rest ds in
    let end : world_of w all ≡ world_of v (rest ++ ds) = ap (world_of w) split ∙ world_of-append w front (rest ++ ds) in
    let here : world_of (world_of w es) cs ≡ world_of v rest = sym (world_of-append w es cs) ∙ ap (world_of w) cut ∙ world_of-append w front rest in
    rounds_most k r v (rest ++ ds) rest ds refl (run_parts r w front (rest ++ ds) (subst (λ l. IsRun r w l) split run)).1
    (λ stable. goes_on (subst (λ (u : World). IsStable (configuration u)) (sym end) stable)) (subst (λ (u : World). Rounds k u ds) here rounds.4)))
