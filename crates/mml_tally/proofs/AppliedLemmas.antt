-- The number of moves that closes apply: counted in the worlds before the closes, and in the list of granted moves.
-- A move of a node is pending if it is chosen and a later close applies it. A world is a network with its registers,
-- its chosen moves, the number of its configuration, and the number of events so far. A list of events is legal if the
-- rules allow each event after the earlier ones. A grant chooses a move for a node, a release drops it, and a close
-- applies all chosen moves at once. A fault sets a node's registers, a link joins two nodes, and a cut removes a link.
use Rattle.std.proofs.Common.{◌≡◌, ℕ, ◌+◌, ◌<◌, zero, Bool, true, false, ◌&&◌, eqb, List, [], ◌∷◌, Some, None, is_some, replicate, refl, ap, ◌∙◌, arith}
use Rattle.std.{specs.Prelude.count_by, proofs.lemmas.Bool.and_parts, proofs.lemmas.Bool.and_right, proofs.lemmas.Bool.Decides.nat_tests}
use Rattle.mml_ids.specs.Search.{count_below}
use Rattle.mml_ids.proofs.SearchLemmas.{count_same}
use Rattle.mml_rules.specs.{declared.rule.Rule.Rule, Rules.kind_of}
use Rattle.mml_lab.specs.Rosters.{RosterValue}
use Rattle.mml_board.specs.{declared.event.Event.Event, World.World, World.size, World.chosen_at, World.IsWorld, Runs.is_legal_list}
use Rattle.mml_board.specs.Events.{is_legal, is_chosen, after, chosen_count}
use Rattle.mml_board.proofs.{WorldLemmas.none_at, WorldLemmas.chosen_at-set, WorldLemmas.chosen_node, WorldLemmas.after-world, ClausesLemmas.is_fit, ClausesLemmas.fit, ClausesLemmas.legal_possible}
use Rattle.mml_convergence.specs.Moves.{applied_over}
use Rattle.mml_convergence.proofs.SumsLemmas.{count_none}
use Rattle.mml_tally.specs.{Moves.fate_of, Moves.moves_from, Marks.is_fate_applied, Marks.is_applied}
use Rattle.mml_tally.proofs.CountsLemmas.{one, more, count_split, only_one}
use Rattle.mml_board.specs.declared.event.Event.TheVariants as event

-- whether the move that is chosen at node i is pending
abbrev pub will : World → ℕ → List Event → ℕ → Bool
will w q es i = is_chosen w i && is_fate_applied (fate_of i q es)

-- the number of pending moves
abbrev pub pending : World → ℕ → List Event → ℕ
pending w q es = count_below (size w) (will w q es)

-- if no move is chosen, none is pending
pub nothing_pending : (w : World) (n q : ℕ) (es : List Event) → ((i : ℕ) → is_chosen w i ≡ false) → count_below n (will w q es) ≡ 0
nothing_pending w n q es none = count_none n (will w q es) (λ i lt. ap (λ b. b && is_fate_applied (fate_of i q es)) (none i))

-- ---- a grant adds its own move

pending_grant : (w : World) (i : ℕ) (rule : Rule) (s q : ℕ) (es : List Event) → IsWorld w → is_fit w (event.Grant s i rule) ≡ true
    → pending (after w (event.Grant s i rule)) q es ≡ pending w q es + one (is_fate_applied (fate_of i q es))
pending_grant w i rule s q es k fits =
    let lt : i < size w = grind (arith, nat_tests, fits) in
    count_split (size w) (will (after w (event.Grant s i rule)) q es) (will w q es) (λ j. eqb i j && is_fate_applied (fate_of i q es))
    (λ j l. grind (arith, nat_tests, chosen_at-set w.chosen i j (Some rule) (omega (arith, k.choices)), fits))
    ∙ ap (λ n. pending w q es + n) (only_one (size w) i (is_fate_applied (fate_of i q es)) lt)

-- ---- a release takes away its own move

pending_release : (w : World) (i q : ℕ) (es : List Event) → IsWorld w → i < size w
    → pending w q (event.Release i ∷ es) ≡ pending (after w (event.Release i)) (q + 1) es
pending_release w i q es k lt = grind (arith, nat_tests, count_same, chosen_at-set)

-- ---- a close applies all pending moves, and in a new configuration none is chosen

pending_close : (w : World) (q : ℕ) (es : List Event) → pending w q (event.Close ∷ es) ≡ chosen_count w
unfolding chosen_count
pending_close w q es = grind (arith, nat_tests, count_same)

pub unchosen : (n i : ℕ) → is_some (chosen_at (replicate n None) i) ≡ false
unchosen n i = ap is_some (none_at n i)

never : (w : World) (n : ℕ) → count_below n (λ i. is_chosen w i && false) ≡ 0
never w n = count_none n (λ i. is_chosen w i && false) (λ i l. and_right (is_chosen w i) false refl)

-- if no move is chosen after an event, none is pending
none_left : (w : World) (e : Event) (q : ℕ) (es : List Event) → (after w e).chosen ≡ replicate (size w) None → pending (after w e) q es ≡ 0
none_left w e q es new = grind (arith, nat_tests, nothing_pending, unchosen)

-- the first event of a legal list passes `is_fit`, and leads to a lawful world (`IsWorld`) in which the rest of the
-- list is legal
pub first_of : (r : RosterValue) (w : World) (e : Event) (es : List Event) → IsWorld w → is_legal_list r w (e ∷ es) ≡ true
    → (is_fit w e ≡ true) × IsWorld (after w e) × (is_legal_list r (after w e) es ≡ true)
first_of r w e es k legal =
    let both = and_parts (is_legal r w e) (is_legal_list r (after w e) es) legal in
    let possible = legal_possible r w e both.0 in
    (fit w e possible, after-world w e k possible, both.1)

-- the number of moves that closes apply is the number of the pending ones, and of those that are granted and applied
-- later
pub applied_is : (r : RosterValue) (w : World) (q : ℕ) (es : List Event) → IsWorld w → is_legal_list r w es ≡ true
    → applied_over w es ≡ pending w q es + count_by is_applied (moves_from q es)
applied_is r w q [] k legal = let none = never w (size w) in omega (arith, none)
applied_is r w q (event.Grant s i rule ∷ es) k legal =
    let e = event.Grant s i rule in
    let on = first_of r w e es k legal in
    let counted = more is_applied (record { place = q; who = s; node = i; kind = kind_of rule; fate = fate_of i (q + 1) es }) (moves_from (q + 1) es) in
    grind (arith, nat_tests, counted, applied_is r (after w e) (q + 1) es on.1 on.2, pending_grant w i rule s (q + 1) es k on.0)
applied_is r w q (event.Release i ∷ es) k legal =
    let e = event.Release i in
    let on = first_of r w e es k legal in
    grind (arith, applied_is r (after w e) (q + 1) es on.1 on.2, pending_release w i q es k (chosen_node w i k.choices on.0))
applied_is r w q (event.Close ∷ es) k legal =
    let e = event.Close in
    let on = first_of r w e es k legal in
    grind (arith, applied_is r (after w e) (q + 1) es on.1 on.2, pending_close w q es, none_left w e (q + 1) es refl)
applied_is r w q (e ∷ es) k legal =
    let on = first_of r w e es k legal in
    grind (arith, applied_is r (after w e) (q + 1) es on.1 on.2, never w (size w), none_left w e (q + 1) es refl)
