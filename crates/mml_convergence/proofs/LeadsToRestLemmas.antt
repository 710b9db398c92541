-- From every world, a grant and a close for each move lead to a world in which no node is privileged.
use Rattle.std.proofs.Common.{◌≡◌, ℕ, zero, suc, ◌+◌, ◌*◌, ◌-◌, ◌<◌, ◌≤◌, true, List, [], ◌∷◌, None, Some, is_some, inl, inr, refl, ap, arith}
use Rattle.std.proofs.lemmas.{Bool.and_from, Bool.cases_Bool, Bool.Decides.nat_tests, List.get_or-set_same}
use Rattle.mml_lab.specs.{Labs.link_count, Rosters.RosterValue}
use Rattle.mml_board.specs.{declared.event.Event.Event, World.World, World.size, World.configuration, World.chosen_at, World.IsWorld, Events.is_any_chosen, Events.is_legal, Events.after}
use Rattle.mml_board.proofs.WorldLemmas.{after-world, size-after, none_at}
use Rattle.mml_board.proofs.ClausesLemmas.{fit, legal_possible, owned_legal, close_possible}
use Rattle.mml_convergence.specs.{Potential.whole_potential, Rest.is_grant_or_close, Rest.EachHasOwner, Rest.LeadsToRest}
use Rattle.mml_convergence.proofs.AppliedLemmas.{close_moves, close_pays, network_most}
use Rattle.mml_convergence.proofs.RestLemmas.{stable_or_privileged, none_chosen, any_chosen, may_move, first_owner}
use Rattle.mml_board.specs.declared.event.Event.TheVariants as event

-- a lawful world in which each node has an owner
record IsReady (r : RosterValue) (w : World) : Type 0 where
  world : IsWorld w
  owned : EachHasOwner r (size w)

ready_after : (r : RosterValue) (w : World) (e : Event) → IsReady r w → is_legal r w e ≡ true → IsReady r (after w e)
ready_after r w e k legal = grind (arith, nat_tests, after-world, legal_possible, size-after)

-- a close is legal if some move is chosen
may_close : (r : RosterValue) (w : World) → is_any_chosen w ≡ true → is_legal r w event.Close ≡ true
may_close r w any = owned_legal r w event.Close refl (close_possible w any)

-- a close lowers the sum of all potentials by at least 1
close_lowers : (r : RosterValue) (w : World) → IsWorld w → is_legal r w event.Close ≡ true
    → whole_potential (configuration (after w event.Close)) + 1 ≤ whole_potential (configuration w)
close_lowers r w k legal = let pays = close_pays w k in let moves = close_moves w k (fit w event.Close (legal_possible r w event.Close legal)) in omega (arith, pays, moves)

abbrev Reached : RosterValue → World → ℕ → Type 0
Reached r w n = (es : List Event) × LeadsToRest r w n es

goes_on : (r : RosterValue) (w : World) (e : Event) (n m : ℕ) → is_legal r w e ≡ true → is_grant_or_close e ≡ true → n + 1 ≤ m
    → Reached r (after w e) n → Reached r w m
goes_on r w e n m legal forward le t = (e ∷ t.0, grind (arith, nat_tests, and_from, t.1))

-- if no move is chosen, and the sum of potentials is less than n, 2 (n - 1) events lead to a world in which no node is
-- privileged
by_moves : (n m : ℕ) (r : RosterValue) (w : World) → IsReady r w → ((i : ℕ) → chosen_at w.chosen i ≡ None)
    → whole_potential (configuration w) < n → 2 * n ≤ m + 2 → Reached r w m
by_moves zero m r w k quiet less room = absurd (omega (arith, less))
by_moves (suc n) m r w k quiet less room = elim (stable_or_privileged (configuration w)) [
  | inl stable ↦ ([], record { legal = refl; forward = refl; stable = stable; few = omega arith })
  | inr x ↦
      let move = may_move r w x.0 k.world x.1 x.2 (quiet x.0) in
      let owner = first_owner r x.0 (k.owned x.0 x.1) in
      let grant = event.Grant owner.0 x.0 move.0 in
      let v = after w grant in
      let legal = move.1 owner.0 owner.1 in
      let here : chosen_at v.chosen x.0 ≡ Some move.0 = get_or-set_same w.chosen x.0 (Some move.0) None (omega (arith, x.1, k.world.choices)) in
      let close = may_close r v (any_chosen v.chosen x.0 (ap is_some here)) in
      let granted = ready_after r w grant k legal in
      let lower = close_lowers r v granted.world close in
      let closed = ready_after r v event.Close granted close in
      let rest = by_moves n (m - 2) r (after v event.Close) closed (none_at (size w)) (omega (arith, lower, less)) (omega (arith, lower, less, room)) in
      goes_on r w grant (m - 1) m legal refl (omega (arith, lower, less, room))
      (goes_on r v event.Close (m - 2) (m - 1) close refl (omega (arith, lower, less, room)) rest)
]

-- from every world, 4 events for each link and 6 for each node lead to a world in which no node is privileged
pub reached : (r : RosterValue) (w : World) → IsWorld w → EachHasOwner r (size w) → Reached r w (4 * link_count w.network + 6 * size w)
reached r w k owned =
    let ready : IsReady r w = record { world = k; owned = owned } in
    let most = network_most w.network k.network in
    elim (cases_Bool (is_any_chosen w)) [
      | inr off ↦ by_moves (suc (whole_potential (configuration w))) _ r w ready (λ i. none_chosen w.chosen i off) (omega arith) (omega (arith, most))
      | inl on ↦
          let legal = may_close r w on in
          let lower = close_lowers r w k legal in
          let n = whole_potential (configuration (after w event.Close)) in
          goes_on r w event.Close (2 * n) _ legal refl (omega (arith, most, lower))
          (by_moves (suc n) (2 * n) r (after w event.Close) (ready_after r w event.Close ready legal) (none_at (size w)) (omega arith) (omega arith))
    ]
