-- The moves and the rounds since the last fault, link or cut are those of a run of grants, releases and closes. So they
-- are within the bounds for moves and rounds. A world is a network with its registers, its chosen moves, the number of
-- its configuration, and the number of events so far. The place of an event is its number in the list of events, from 1.
-- A node is privileged if some rule is enabled there. A list of events is legal if the rules allow each event after the
-- earlier ones. A grant chooses a move for a node, a release drops it, and a close applies all chosen moves at once. A
-- fault sets a node's registers, a link joins two nodes, and a cut removes a link.
use Rattle.std.proofs.Common.{◌≡◌, ℕ, suc, ◌+◌, ◌-◌, ◌*◌, ◌<◌, ◌≤◌, true, false, cond, eqb, List, [], ◌∷◌, None, Some, is_some, refl, ap, sym, ◌∙◌, arith, inl, inr, subst}
use Rattle.std.specs.{Prelude.count_by, List.list_all}
use Rattle.std.proofs.lemmas.Bool.{cases_Bool, eqb-true, eq-eqb, false≢true, false_from_ne_true, Decides.nat_tests}
use Rattle.mml_rules.specs.{Configuration.Configuration, Configuration.IsLawful, Rules.is_privileged, Matching.IsStable}
use Rattle.mml_rules.proofs.MeaningLemmas.{privileged-means}
use Rattle.mml_lab.specs.{Labs.LabValue, Labs.IsLab, Labs.link_count, Labs.links_below, Rosters.RosterValue}
use Rattle.mml_board.specs.{declared.event.Event.Event, World.World, World.IsWorld, World.size, World.configuration, World.opening_of, Events.after, Runs.is_legal_list, Runs.world_of}
use Rattle.mml_board.proofs.RunsLemmas.{size-world_of}
use Rattle.mml_board.proofs.WorldLemmas.{length-moved_registers}
use Rattle.mml_convergence.specs.{Runs.is_of_step, Moves.applied_over, Potential.whole_potential, Courtships.most_courtships, Courtships.courting_potential, Rounds.rounds_for}
use Rattle.mml_convergence.proofs.{AppliedLemmas.Falls, AppliedLemmas.event_pays, AppliedLemmas.network_most, WholePotentialLemmas.whole_fell, SumsLemmas.count_some}
use Rattle.mml_convergence.proofs.{WholeLemmas.courting_fell, WholeLemmas.courting_most, ServedLemmas.IsRun, ServedLemmas.run_parts, ServedLemmas.run_end, ServedLemmas.first_of_step}
use Rattle.mml_tally.specs.{Moves.fate_of, Moves.moves_from, declared.granted_move.Move.Move, Marks.is_applied, Bounds.bounds_of, Rounds.rounds_in, Rounds.rounds_after, Rounds.rounds_since}
use Rattle.mml_tally.specs.Runs.{last_change, is_change, is_fate_after, is_applied_after, run_of}
use Rattle.mml_tally.proofs.{AppliedLemmas.applied_is, AppliedLemmas.first_of, CountsLemmas.more, StudentsLemmas.opening-world, RoundsLemmas.run_within, RoundsLemmas.run_rests}
use Rattle.mml_board.specs.declared.event.Event.TheVariants as event

-- ---- the last fault, link or cut

-- grants, releases and closes don't change the place of the last fault, link or cut
kept : (last q : ℕ) (es : List Event) → list_all is_of_step es ≡ true → last_change last q es ≡ last
kept last q [] steps = refl
kept last q (e ∷ es) steps = grind (arith, nat_tests, is_of_step e, kept last (q + 1) es)

-- if a fault, link or cut is among the events, the place of the last of them is at least q, the place of the first
-- event
beyond : (last q : ℕ) (es : List Event) → list_all is_of_step es ≡ false → q ≤ last_change last q es
beyond last q [] some = absurd (false≢true (sym some))
beyond last q (e ∷ es) some = grind (arith, nat_tests, is_of_step e, list_all is_of_step es, beyond last (q + 1) es, beyond q (q + 1) es, kept q (q + 1) es)

-- if a fault, link or cut is among the events, no close after the last one applies a move that was chosen before the
-- events
not_after : (i last q : ℕ) (es : List Event) → list_all is_of_step es ≡ false → is_fate_after (last_change last q es) (fate_of i q es) ≡ false
not_after i last q [] some = absurd (false≢true (sym some))
not_after i last q (e ∷ es) some = grind (arith, nat_tests, beyond last q (e ∷ es) some, not_after i last (q + 1) es)

-- ---- the run since then

fewer : (k : ℕ) (ms : List Move) → count_by (is_applied_after k) ms ≤ count_by is_applied ms
fewer k [] = omega arith
fewer k (m ∷ ms) = let rest = fewer k ms in grind (arith, more (is_applied_after k) m ms, more is_applied m ms, rest, nat_tests)

-- the number of moves that are applied after the last fault, link or cut
abbrev count_since : ℕ → ℕ → List Event → ℕ
count_since last q es = count_by (is_applied_after (last_change last q es)) (moves_from q es)

-- if a fault, link or cut is among the events, the number stays the same without the first event
since_later : (last q : ℕ) (e : Event) (es : List Event) → list_all is_of_step (e ∷ es) ≡ false
    → count_since last q (e ∷ es) ≡ count_since (cond (is_change e) q last) (q + 1) es
since_later last q (event.Grant s i rule) es some = grind (arith, nat_tests, more, not_after i last (q + 1) es some)
since_later last q _ es some = refl

-- a run of grants, releases and closes that leads to the same world as the events es, and has the moves and the rounds
-- since the last fault, link or cut
record Since (r : RosterValue) (w : World) (last q : ℕ) (es : List Event) : Type 0 where
  from : World
  later : List Event
  run : IsRun r from later
  end : world_of from later ≡ world_of w es
  moves : count_since last q es ≤ applied_over from later
  rounds : rounds_after (last_change last q es + 1 - q) w es ≡ rounds_in from later

whole : (r : RosterValue) (w : World) (last q : ℕ) (es : List Event) → last < q → IsWorld w → is_legal_list r w es ≡ true → list_all is_of_step es ≡ true
    → Since r w last q es
whole r w last q es lt k legal steps =
    let run : IsRun r w es = record { world = k; legal = legal; of_step = steps } in
    let moves : count_since last q es ≤ applied_over w es = omega (arith, applied_is r w q es k legal, fewer (last_change last q es) (moves_from q es)) in
    let none : last_change last q es + 1 - q ≡ 0 = omega (arith, kept last q es steps) in
    record { from = w; later = es; run = run; end = refl; moves = moves; rounds = ap (λ n. rounds_after n w es) none }

since : (r : RosterValue) (w : World) (last q : ℕ) (es : List Event) → last < q → IsWorld w → is_legal_list r w es ≡ true → Since r w last q es
since r w last q [] lt k legal = whole r w last q [] lt k legal refl
since r w last q (e ∷ es) lt k legal = elim (cases_Bool (list_all is_of_step (e ∷ es))) [
  | inl steps ↦ whole r w last q (e ∷ es) lt k legal steps
  | inr some ↦
      let on = first_of r w e es k legal in
      let s = since r (after w e) (cond (is_change e) q last) (q + 1) es (grind (arith, nat_tests, is_change e)) on.1 on.2 in
      let passed : last_change last q (e ∷ es) + 1 - q ≡ suc (last_change last q (e ∷ es) + 1 - (q + 1)) = omega (arith, beyond last q (e ∷ es) some) in
      let moves : count_since last q (e ∷ es) ≤ applied_over s.from s.later = omega (arith, s.moves, since_later last q e es some) in
      let rounds = ap (λ n. rounds_after n w (e ∷ es)) passed ∙ s.rounds in
      record { from = s.from; later = s.later; run = s.run; end = s.end; moves = moves; rounds = rounds }
]

-- ---- each applied move lowers a potential by 1 or more

paid : (P : Configuration → ℕ) → Falls P → (r : RosterValue) (w : World) (es : List Event) → IsRun r w es
    → applied_over w es + P (configuration (world_of w es)) ≤ P (configuration w)
paid P falls r w [] k = omega arith
paid P falls r w (e ∷ es) k =
    omega (arith, event_pays P falls w e k.world (first_of_step r w e es k), paid P falls r (after w e) es (run_parts r w (e ∷ []) es k).1)

-- if a node is privileged, the potential is at least 1
positive : (P : Configuration → ℕ) → Falls P → (c : Configuration) → IsLawful c → (i : ℕ) → i < c.size → is_privileged c i ≡ true → 1 ≤ P c
positive P falls c l i lt on =
    let g = (privileged-means c i l).0 on in
    let fell = falls c (λ j. cond (eqb i j) (Some g.0) None) l (grind (arith, nat_tests, eqb-true)) in
    let some = count_some c.size i (λ j. is_some (cond (eqb i j) (Some g.0) None)) lt (ap (λ b. is_some (cond b (Some g.0) None)) (eq-eqb i i refl)) in
    omega (arith, fell, some)

-- ---- the numbers of nodes and links stay the same

close_links : (w : World) → link_count (after w event.Close).network ≡ link_count w.network
unfolding link_count
close_links w = ap (links_below (configuration w)) (length-moved_registers w)

same_links : (w : World) (es : List Event) → list_all is_of_step es ≡ true → link_count (world_of w es).network ≡ link_count w.network
same_links w [] steps = refl
same_links w (event.Close ∷ es) steps = same_links (after w event.Close) es steps ∙ close_links w
same_links w (e ∷ es) steps = grind (arith, nat_tests, same_links (after w e) es)

-- ---- both bounds

-- n is at most the bound m, and if it is equal to m, no node is privileged in the world w
abbrev IsWithin : ℕ → ℕ → World → Type 0
IsWithin n m w = (n ≤ m) × (m ≤ n → IsStable (configuration w))

run_moves : (r : RosterValue) (w : World) (es : List Event) (n : ℕ) → IsRun r w es → n ≤ applied_over w es
    → IsWithin n (bounds_of (world_of w es)).moves (world_of w es)
run_moves r w es n run le = (
  omega (arith, courted, linked),
  λ most i lt. false_from_ne_true (is_privileged (configuration last) i) (λ on.
      let lawful = (run_end r w es run).network.lawful in
      let first = positive courting_potential courting_fell (configuration last) lawful i lt on in
      let second = positive whole_potential whole_fell (configuration last) lawful i lt on in
      absurd (omega (arith, courted, linked, first, second, most))),
)
  where
    last : World
    last = world_of w es

    courted : applied_over w es + courting_potential (configuration last) ≤ 3 * size last + 2 * most_courtships (size last)
    courted = grind (arith, nat_tests, paid courting_potential courting_fell r w es run, courting_most (configuration w), size-world_of w es)

    linked : applied_over w es + whole_potential (configuration last) ≤ 2 * link_count last.network + 3 * size last
    linked =
        let spent = paid whole_potential whole_fell r w es run in
        omega (arith, spent, size-world_of w es, same_links w es run.of_step, network_most w.network run.world.network)

run_rounds : (r : RosterValue) (w : World) (es : List Event) → IsRun r w es → IsWithin (rounds_in w es) (bounds_of (world_of w es)).rounds (world_of w es)
run_rounds r w es run =
    subst (λ n. IsWithin (rounds_in w es) (rounds_for n) (world_of w es)) (sym (size-world_of w es)) (run_within r w es run, run_rests r w es run)

module _ (lab : LabValue) (es : List Event) (known : IsLab lab) (legal : is_legal_list lab.roster (opening_of lab.network) es ≡ true) where
  s : Since lab.roster (opening_of lab.network) 0 1 es
  s = since lab.roster (opening_of lab.network) 0 1 es (omega arith) (opening-world lab known) legal

  -- the moves since the last fault, link or cut are within the bound for moves
  pub moves_within : IsWithin (run_of es).moves_since (bounds_of (world_of (opening_of lab.network) es)).moves (world_of (opening_of lab.network) es)
  moves_within = subst (λ v. IsWithin (run_of es).moves_since (bounds_of v).moves v) s.end (run_moves lab.roster s.from s.later _ s.run s.moves)

  -- the rounds since the last fault, link or cut are within the bound for rounds
  pub rounds_within :
      IsWithin (rounds_since (opening_of lab.network) es) (bounds_of (world_of (opening_of lab.network) es)).rounds (world_of (opening_of lab.network) es)
  rounds_within =
      let same : rounds_in s.from s.later ≡ rounds_since (opening_of lab.network) es =
      sym s.rounds ∙ ap (λ k. rounds_after k (opening_of lab.network) es) (omega arith) in
      subst (λ v. IsWithin (rounds_since (opening_of lab.network) es) (bounds_of v).rounds v) s.end
      (subst (λ n. IsWithin n (bounds_of (world_of s.from s.later)).rounds (world_of s.from s.later)) same (run_rounds lab.roster s.from s.later s.run))
