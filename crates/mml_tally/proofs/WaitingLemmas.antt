-- The nodes that wait are those that have had no turn in the round so far. A node is served as soon as it has had its
-- turn. A node is privileged if some rule is enabled there.
use Rattle.std.{proofs.lemmas.Bool.Decides.nat_tests, specs.Ordering.nat_cmp, specs.Cmp.nat_cmp_total, specs.FinSet.FinSet}
use Rattle.std.proofs.Common.{◌≡◌, ℕ, ◌+◌, Bool, not, ◌&&◌, eqb, ltb, List, [], ◌∷◌, ◌++◌, refl, sym, ap, ◌∙◌, arith}
use Rattle.mml_ids.specs.{Sets.those_below, inside.WordsLemmas.has_empty, inside.WordsLemmas.same_ranks, inside.WordsLemmas.has-those_below}
use Rattle.mml_rules.specs.Rules.{is_privileged}
use Rattle.mml_board.specs.{declared.event.Event.Event, World.World, World.size, World.configuration, Events.is_chosen, Events.chosen_nodes, Events.after, Runs.world_of}
use Rattle.mml_board.proofs.{KeptLemmas.len-those_below, RunsLemmas.world_of-append, WorldLemmas.size-after, RunsLemmas.size-world_of}
use Rattle.mml_convergence.specs.{Moves.is_close, Rounds.is_served}
use Rattle.mml_tally.specs.{Rounds.rounds_from, Rounds.rounds_in, inside.Waiting.privileged_nodes, inside.Waiting.moved_nodes, inside.Waiting.still_waiting, inside.Waiting.count_rounds}
use Rattle.std.specs.FinSet as sets

-- ---- one node

-- a node still waits after one more event exactly if it waited before, the event applies no move of it, and it is
-- privileged after the event
served_more : (i : ℕ) (w : World) (fs : List Event) (e : Event) → not (is_served i w (fs ++ e ∷ []))
    ≡ (not (is_served i w fs) && (not (is_close e && is_chosen (world_of w fs) i) && is_privileged (configuration (after (world_of w fs) e)) i))
served_more i w [] e = grind (arith, nat_tests, is_privileged (configuration w) i, is_close e && is_chosen w i, is_privileged (configuration (after w e)) i)
served_more i w (f ∷ fs) e = grind (arith, nat_tests, served_more i (after w f) fs e, is_privileged (configuration w) i, is_close f && is_chosen w i)

-- ---- all nodes

-- the nodes that have had no turn
abbrev waiting : World → List Event → FinSet nat_cmp
waiting w fs = those_below (size w) (λ i. not (is_served i w fs))

twice : (b : Bool) → not (not b) ≡ b
twice b = grind (arith, nat_tests)

waiting_first : (w : World) → waiting w [] ≡ privileged_nodes w
unfolding privileged_nodes
waiting_first w = λ k. those_below (size w) (λ i. twice (is_privileged (configuration w) i) k)

has-privileged : (w : World) (q : ℕ) → sets.contains (privileged_nodes w) q ≡ (ltb q (size w) && is_privileged (configuration w) q)
unfolding privileged_nodes
has-privileged w q = has-those_below (size w) (is_privileged (configuration w)) q

has-chosen : (w : World) (q : ℕ) → sets.contains (chosen_nodes w) q ≡ (ltb q (size w) && is_chosen w q)
unfolding chosen_nodes
has-chosen w q = has-those_below (size w) (is_chosen w) q

has-moved : (w : World) (e : Event) (q : ℕ) → sets.contains (moved_nodes w e) q ≡ (is_close e && (ltb q (size w) && is_chosen w q))
has-moved w e q = grind (arith, nat_tests, is_close e, has-chosen w q, has_empty q)

has-still : (w : World) (s : FinSet nat_cmp) (e : Event) (q : ℕ) → sets.contains (still_waiting w s e) q
    ≡ ((sets.contains s q && not (sets.contains (moved_nodes w e) q)) && sets.contains (privileged_nodes (after w e)) q)
has-still w s e q =
    sets.contains-intersection nat_cmp_total (sets.difference s (moved_nodes w e)) (privileged_nodes (after w e)) q
    ∙ ap (λ b. b && sets.contains (privileged_nodes (after w e)) q) (sets.contains-difference nat_cmp_total s (moved_nodes w e) q)

waiting_more : (w : World) (fs : List Event) (e : Event) → waiting w (fs ++ e ∷ []) ≡ still_waiting (world_of w fs) (waiting w fs) e
waiting_more w fs e = same_ranks _ _ (λ q.
    let v = world_of w fs in
    let now = has-those_below (size w) (λ i. not (is_served i w (fs ++ e ∷ []))) q in
    let before = has-those_below (size w) (λ i. not (is_served i w fs)) q in
    let still = has-still v (waiting w fs) e q in
    grind (arith, nat_tests, now, before, served_more q w fs e, still, has-moved v e q, has-privileged (after v e) q, size-world_of w fs, size-after v e))

-- ---- the rounds

counted : (w : World) (fs es : List Event) → rounds_from w fs es ≡ count_rounds (world_of w fs) (waiting w fs) es
counted w fs [] = refl
counted w fs (e ∷ es) =
    let v = world_of w fs in
    let gs = fs ++ e ∷ [] in
    let next = world_of w gs in
    let ended = ap (λ n. eqb n 0) (len-those_below (size w) (λ i. not (is_served i w gs))) in
    grind (arith, nat_tests, world_of-append w fs (e ∷ []), waiting_more w fs e, ended, counted next [] es, waiting_first next, counted w gs es)

-- the number of rounds that end in a list, counted by the nodes that wait, is `rounds_in`
pub rounds_counted : (w : World) (es : List Event) → count_rounds w (privileged_nodes w) es ≡ rounds_in w es
rounds_counted w es = sym (counted w [] es ∙ ap (λ s. count_rounds w s es) (waiting_first w))
