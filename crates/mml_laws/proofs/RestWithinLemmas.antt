-- The number of grants and closes is at most twice the value of a potential. A potential is a number that each close
-- reduces, at least by the number of moves that the close applies.
use Rattle.std.proofs.lemmas.{Bool.Decides.nat_tests, Bool.and_parts, Bool.and_from, Bool.false≢true, Bool.ltb-true, List.get_or-set_same, List.get_or-set_other, List.Folds.list_all-append}
use Rattle.std.proofs.Common.{◌≡◌, ◌<◌, ◌≤◌, ◌+◌, ◌*◌, ℕ, true, ◌&&◌, eqb, List, [], ◌∷◌, ◌++◌, length, Option, None, Some, is_some, is_none, inl, inr, refl, ap, ◌∙◌, arith, length-append}
use Rattle.std.specs.List.{list_all}
use Rattle.mml_rules.specs.{declared.rule.Rule.Rule, Configuration.Configuration, Rules.is_privileged, Matching.IsStable}
use Rattle.mml_lab.specs.{Labs.link_count, Rosters.RosterValue}
use Rattle.mml_board.specs.{declared.event.Event.Event, Events.is_legal, Events.is_node, Events.is_chosen, Events.after, Events.chosen_count, Runs.is_legal_list, Runs.world_of}
use Rattle.mml_board.specs.World.{World, IsWorld, size, configuration, chosen_at}
use Rattle.mml_board.proofs.ClausesLemmas.{fit, legal_possible, owned_legal, close_possible}
use Rattle.mml_board.proofs.{WorldLemmas.after-world, RunsLemmas.list-world, RunsLemmas.legal-one_more, RunsLemmas.place-world_of, RunsLemmas.size-world_of}
use Rattle.mml_convergence.specs.{Potential.whole_potential, Rest.EachHasOwner, Rest.is_grant_or_close, Courtships.courting_potential, Most.events_to_rest}
use Rattle.mml_convergence.proofs.RestLemmas.{any_chosen, may_move, first_owner, stable_or_privileged}
use Rattle.mml_convergence.proofs.{WholePotentialLemmas.whole_fell, NumbersLemmas.courtships_kept, NumbersLemmas.courtships_even, WholeLemmas.courting_fell, WholeLemmas.courting_most}
use Rattle.mml_convergence.proofs.AppliedLemmas.{Falls, close_paid, close_moves, network_most}
use Rattle.mml_tally.proofs.CountsLemmas.{count_split, only_one}
use Rattle.mml_board.specs.declared.event.Event.TheVariants as event

-- ---- a grant makes the number of chosen moves greater by one

grant_chooses : (r : RosterValue) (w : World) (s i : ℕ) (q : Rule) → IsWorld w → is_legal r w (event.Grant s i q) ≡ true
    → chosen_count (after w (event.Grant s i q)) ≡ chosen_count w + 1
unfolding chosen_count
grant_chooses r w s i q k legal =
    let fits = and_parts (is_node w i) _ (fit w (event.Grant s i q) (legal_possible r w (event.Grant s i q) legal)) in
    let lt = ltb-true i (size w) fits.0 in
    let free = (and_parts (is_none (chosen_at w.chosen i)) _ fits.1).0 in
    let split = count_split (size w) (is_chosen (after w (event.Grant s i q))) (is_chosen w) (λ j. eqb i j && true)
    (λ j l. grind (arith, nat_tests, k.choices, free, lt, get_or-set_same, get_or-set_other)) in
    omega (arith, split, only_one (size w) i true lt)

-- ---- the number of events is bounded by a potential

-- the bound holds for each number `potential` that falls in each step by at least the number of moves
module _ (potential : Configuration → ℕ) (falls : Falls potential) where
  events_paid : (r : RosterValue) (w : World) (es : List Event) → IsWorld w → is_legal_list r w es ≡ true → list_all is_grant_or_close es ≡ true
      → length es + chosen_count w ≤ 2 * potential (configuration w)
  events_paid r w [] k legal forward = omega (arith, close_paid potential falls w k)
  events_paid r w (event.Grant s i q ∷ es) k legal forward =
      let both = and_parts (is_legal r w (event.Grant s i q)) _ legal in
      let world = after-world w (event.Grant s i q) k (legal_possible r w (event.Grant s i q) both.0) in
      omega (arith, events_paid r (after w (event.Grant s i q)) es world both.1 forward, grant_chooses r w s i q k both.0)
  events_paid r w (event.Close ∷ es) k legal forward =
      let both = and_parts (is_legal r w event.Close) _ legal in
      let possible = legal_possible r w event.Close both.0 in
      let rest = events_paid r (after w event.Close) es (after-world w event.Close k possible) both.1 forward in
      omega (arith, rest, close_paid potential falls w k, close_moves w k (fit w event.Close possible))
  events_paid r w (_ ∷ es) k legal forward = absurd (false≢true forward)

pub events_few : (r : RosterValue) (w : World) (es : List Event) → IsWorld w → is_legal_list r w es ≡ true → list_all is_grant_or_close es ≡ true
    → length es + chosen_count w ≤ events_to_rest (size w) (link_count w.network)
events_few r w es k legal forward =
    let by_links = events_paid whole_potential whole_fell r w es k legal forward in
    let by_nodes = events_paid courting_potential courting_fell r w es k legal forward in
    omega (arith, by_links, network_most w.network k.network, by_nodes, courting_most (configuration w))

pub events_most : (nodes links : ℕ) → nodes ≤ 256 → events_to_rest nodes links ≤ 67072
events_most nodes links few = omega (arith, courtships_kept nodes (2 * 128) few, courtships_even 128)

-- ---- as long as a node is privileged, one more event is legal

record NextEvent (r : RosterValue) (w : World) : Type 0 where
  event : Event
  legal : is_legal r w event ≡ true
  forward : is_grant_or_close event ≡ true

next_event : (r : RosterValue) (w : World) → IsWorld w → EachHasOwner r (size w) → ¬ IsStable (configuration w) → NextEvent r w
next_event r w k owned restless =
    elim (stable_or_privileged (configuration w)) [ inl stable ↦ absurd (restless stable) | inr p ↦ at p.0 p.1 p.2 (chosen_at w.chosen p.0) refl ]
  where
    at : (i : ℕ) → i < size w → is_privileged (configuration w) i ≡ true → (o : Option Rule) → chosen_at w.chosen i ≡ o → NextEvent r w
    at i lt privileged None e = grind (arith, nat_tests, may_move r w i k lt privileged e, first_owner r i (owned i lt))
    at i lt privileged (Some q) e =
        record { event = event.Close; legal = owned_legal r w event.Close refl (close_possible w (any_chosen w.chosen i (ap is_some e))); forward = refl }

-- as long as a node is privileged, a list of grants and closes has fewer events than the bound
pub fewer : (r : RosterValue) (w : World) (es : List Event) → IsWorld w → EachHasOwner r (size w) → is_legal_list r w es ≡ true
    → list_all is_grant_or_close es ≡ true → ¬ IsStable (configuration (world_of w es)) → length es + 1 ≤ events_to_rest (size w) (link_count w.network)
fewer r w es k owned legal forward restless =
    let next = next_event r (world_of w es) (list-world r w es k legal) (λ i lt. owned i (omega (arith, lt, size-world_of w es))) restless in
    let longer = legal-one_more r w es next.event ∙ and_from _ _ legal next.legal in
    let kinds = list_all-append is_grant_or_close es (next.event ∷ []) ∙ and_from _ _ forward (and_from _ true next.forward refl) in
    omega (arith, events_few r w (es ++ next.event ∷ []) k longer kinds, length-append es (next.event ∷ []))

-- the place after a list of events
pub ruleset places = (nat_tests, place-world_of)
