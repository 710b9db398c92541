-- A number that falls in each step by at least the number of moves is a bound on the moves of a run.
use Rattle.std.proofs.Common.{◌≡◌, ℕ, ◌+◌, ◌*◌, ◌≤◌, min, true, cond, List, [], ◌∷◌, length, Option, None, is_some, ap, ◌∙◌, arith}
use Rattle.std.{specs.List.list_all, proofs.lemmas.Bool.false≢true, proofs.lemmas.Bool.Decides.nat_tests, proofs.lemmas.List.get_or_default, proofs.lemmas.List.Folds.Any-from_list_any}
use Rattle.mml_ids.specs.Search.{count_below}
use Rattle.mml_rules.specs.{declared.rule.Rule.Rule, Configuration.Configuration, Configuration.IsLawful, Rules.step, Rules.AllHold, Network.Network, Network.configuration_of, Network.IsNetwork}
use Rattle.mml_lab.specs.{Labs.link_count, Rosters.RosterValue}
use Rattle.mml_board.specs.{declared.event.Event.Event, Events.is_possible, Events.is_any_chosen, Events.after, Events.chosen_count, Runs.is_legal_list}
use Rattle.mml_board.specs.World.{World, size, configuration, chosen_at, IsWorld}
use Rattle.mml_board.proofs.{WorldLemmas.closed-step, WorldLemmas.after-world, ClausesLemmas.fit, ClausesLemmas.legal_possible}
use Rattle.mml_convergence.specs.{Runs.is_of_step, Potential.whole_potential, Courtships.most_courtships, Courtships.courting_potential, Moves.moves, Moves.applied_by, Moves.applied_over, Moves.is_close, Moves.count_closes}
use Rattle.mml_convergence.proofs.{SumsLemmas.count_some, WholePotentialLemmas.whole_fell, WholePotentialLemmas.whole_most, WholeLemmas.courting_fell, WholeLemmas.courting_most}
use Rattle.mml_board.specs.declared.event.Event.TheVariants as event

-- P falls in each step by at least the number of moves
abbrev pub Falls : (Configuration → ℕ) → Type 0
Falls P = (c : Configuration) (chosen : ℕ → Option Rule) → IsLawful c → AllHold c chosen → P (step c chosen) + count_below c.size (moves chosen) ≤ P c

-- if `Falls P` holds, a close lowers P by at least the number of its moves
pub close_paid : (P : Configuration → ℕ) → Falls P → (w : World) → IsWorld w → chosen_count w + P (configuration (after w event.Close)) ≤ P (configuration w)
unfolding chosen_count
close_paid P falls w k = grind (arith, nat_tests, closed-step)

-- each applied move of an event lowers P by 1 or more
pub event_pays : (P : Configuration → ℕ) → Falls P → (w : World) (e : Event) → IsWorld w → is_of_step e ≡ true
    → applied_by w e + P (configuration (after w e)) ≤ P (configuration w)
event_pays P falls w (event.Grant s i rule) k of_step = omega arith
event_pays P falls w (event.Release i) k of_step = omega arith
event_pays P falls w event.Close k of_step = close_paid P falls w k
event_pays P falls w _ k of_step = absurd (false≢true of_step)

-- if `Falls P` holds, grants, releases and closes apply at most as many moves as the value of P before them
pub moves_paid : (P : Configuration → ℕ) → Falls P → (r : RosterValue) (w : World) (es : List Event) → IsWorld w → is_legal_list r w es ≡ true
    → list_all is_of_step es ≡ true → applied_over w es ≤ P (configuration w)
moves_paid P falls r w [] k legal steps = omega arith
moves_paid P falls r w (e ∷ es) k legal steps = grind (arith, event_pays P falls w e k, moves_paid P falls r (after w e) es, after-world w e k, legal_possible r w e)

-- a close lowers the sum of all potentials by at least the number of its moves
pub close_pays : (w : World) → IsWorld w → chosen_count w + whole_potential (configuration (after w event.Close)) ≤ whole_potential (configuration w)
close_pays w k = close_paid whole_potential whole_fell w k

-- the sum of all potentials of a network is at most 2 for each link and 3 for each node
pub network_most : (n : Network) → IsNetwork n → whole_potential (configuration_of n) ≤ 2 * link_count n + 3 * length n.registers
unfolding link_count
network_most n k = whole_most (configuration_of n) k.lawful

-- grants, releases and closes apply at most 2 moves for each link and 3 for each node
pub moves_bounded : (r : RosterValue) (w : World) (es : List Event) → IsWorld w → is_legal_list r w es ≡ true → list_all is_of_step es ≡ true
    → applied_over w es ≤ 2 * link_count w.network + 3 * size w
moves_bounded r w es k legal steps = omega (arith, moves_paid whole_potential whole_fell r w es k legal steps, network_most w.network k.network)

-- grants, releases and closes apply at most 3n + 2 min(L, n²/4) moves to a network of n nodes and L links, with n²/4
-- rounded down
pub moves_few : (r : RosterValue) (w : World) (es : List Event) → IsWorld w → is_legal_list r w es ≡ true → list_all is_of_step es ≡ true
    → applied_over w es ≤ 3 * size w + 2 * min (link_count w.network) (most_courtships (size w))
moves_few r w es k legal steps =
    let courting = moves_paid courting_potential courting_fell r w es k legal steps in
    grind (arith, nat_tests, courting, moves_bounded, courting_most)

-- ---- each close applies a move

-- a close applies at least one move if some move is chosen
pub close_moves : (w : World) → IsWorld w → is_any_chosen w ≡ true → 1 ≤ chosen_count w
unfolding chosen_count
close_moves w k any =
    let a = Any-from_list_any is_some w.chosen any in
    let here : chosen_at w.chosen a.0 ≡ a.1 = get_or_default w.chosen a.0 None a.1 a.2 ∙ a.3 in
    count_some (size w) a.0 (λ i. is_some (chosen_at w.chosen i)) (omega (arith, a.2, k.choices)) (ap is_some here ∙ a.4)

closes_fewer : (r : RosterValue) (w : World) (es : List Event) → IsWorld w → is_legal_list r w es ≡ true → count_closes es ≤ applied_over w es
closes_fewer r w [] k legal = omega arith
closes_fewer r w (e ∷ es) k legal = grind (arith, one e, closes_fewer r (after w e) es, after-world w e k, legal_possible r w e)
  where
    one : (e : Event) → is_possible w e ≡ true → cond (is_close e) 1 0 ≤ applied_by w e
    one event.Close p = close_moves w k (fit w event.Close p)
    one _ p = omega arith

-- among grants, releases and closes, there are at most 2 closes for each link and 3 for each node
pub closes_bounded : (r : RosterValue) (w : World) (es : List Event) → IsWorld w → is_legal_list r w es ≡ true → list_all is_of_step es ≡ true
    → count_closes es ≤ 2 * link_count w.network + 3 * size w
closes_bounded r w es k legal steps = omega (arith, closes_fewer r w es k legal, moves_bounded r w es k legal steps)
