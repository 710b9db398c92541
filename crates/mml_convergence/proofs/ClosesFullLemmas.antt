-- If every privileged node has a chosen move at each close, each close ends a round.
use Rattle.std.proofs.Common.{◌≡◌, ℕ, zero, suc, ◌<◌, ◌≤◌, inl, inr, true, cond, List, [], ◌∷◌, ◌++◌, refl, ap, subst, arith}
use Rattle.std.specs.List.{list_all}
use Rattle.std.proofs.lemmas.Bool.{and_from, or_left, or_right, both_ways, cases_Bool, cases_lt, Decides.nat_tests}
use Rattle.mml_lab.specs.Rosters.{RosterValue}
use Rattle.mml_board.specs.{declared.event.Event.Event, World.World, World.size, World.IsWorld, Events.is_legal, Events.after, Runs.is_legal_list, Runs.world_of}
use Rattle.mml_board.proofs.WorldLemmas.{size-after}
use Rattle.mml_convergence.specs.{Runs.is_of_step, Moves.is_close, Moves.count_closes, Rounds.IsRound, Rounds.Rounds, Rounds.rounds_for, Rounds.IsFull, Rounds.ClosesFull}
use Rattle.mml_convergence.proofs.{RestLemmas.stable_final, RoundsLemmas.rounds_end}
use Rattle.mml_convergence.proofs.ServedLemmas.{IsRun, first_legal, first_of_step, run_parts, run_end}

-- an event followed by a round is a round
longer_round : (w : World) (e : Event) (es : List Event) → IsRound (after w e) es → IsRound w (e ∷ es)
longer_round w e es round i lt = or_right _ _ (or_right _ _ (round i (omega (arith, lt, size-after w e))))

-- a close at which every privileged node has a chosen move is a round
closing_round : (w : World) (e : Event) → is_close e ≡ true → IsFull w → IsRound w (e ∷ [])
closing_round w e close full i lt = grind (arith, nat_tests, cases_Bool, or_right, or_left, and_from, full i lt)

-- the list has k rounds, followed by at least one event
abbrev Cut : ℕ → World → List Event → Type 0
Cut k w es = (fs : List Event) × (e : Event) × (gs : List Event) × (es ≡ fs ++ (e ∷ gs)) × Rounds k w fs

cut : (k : ℕ) (w : World) (es : List Event) → ClosesFull w es → k < count_closes es → Cut k w es
cut k w [] full less = absurd (omega arith)
cut zero w (e ∷ es) full less = ([], e, es, refl, tt)
cut (suc k) w (e ∷ es) full less = elim (cases_Bool (is_close e)) [
  | inl on ↦
      let rest = cut k (after w e) es full.1 (omega (arith, less, ap (λ b. cond {A = ℕ} b 1 0) on)) in
      (e ∷ rest.0, rest.1, rest.2, ap (λ z. e ∷ z) rest.3, (e ∷ [], rest.0, refl, closing_round w e on (full.0 on), rest.4))
  | inr off ↦
      let rest = cut (suc k) (after w e) es full.1 (omega (arith, less, ap (λ b. cond {A = ℕ} b 1 0) off)) in
      let rounds = rest.4 in
      (e ∷ rest.0, rest.1, rest.2, ap (λ z. e ∷ z) rest.3, (e ∷ rounds.0, rounds.1, ap (λ z. e ∷ z) rounds.2, longer_round w e rounds.0 rounds.3, rounds.4))
]

-- if every privileged node has a chosen move at each close, the number of closes is at most the bound on rounds
pub closes_few : (r : RosterValue) (w : World) (es : List Event) → IsWorld w → is_legal_list r w es ≡ true → list_all is_of_step es ≡ true
    → ClosesFull w es → count_closes es ≤ rounds_for (size w)
closes_few r w es k legal of_step full = elim (cases_lt (rounds_for (size w)) (count_closes es)) [
  | inr few ↦ few
  | inl less ↦
      let c = cut (rounds_for (size w)) w es full less in
      let run : IsRun r w es = record { world = k; legal = legal; of_step = of_step } in
      let parts = run_parts r w c.0 (c.1 ∷ c.2) (subst (λ x. IsRun r w x) c.3 run) in
      let stable = rounds_end r w c.0 (rounds_for (size w)) parts.0 (omega arith) c.4 in
      let last = stable_final r (world_of w c.0) c.1 (run_end r w c.0 parts.0) stable (first_of_step r (world_of w c.0) c.1 c.2 parts.1) in
      absurd (both_ways (is_legal r (world_of w c.0) c.1) last (first_legal r (world_of w c.0) c.1 c.2 parts.1))
]
