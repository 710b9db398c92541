-- If each node has an owner, a run can go on as long as some node is privileged. So in a run that is over, no node is.
use Rattle.std.proofs.Common.{◌≡◌, ℕ, zero, suc, ◌<◌, ◌⊎◌, true, false, ◌==◌, List, [], ◌∷◌, length, inl, inr, Option, None, Some, is_some, sym, refl, ap, ◌∙◌, arith}
use Rattle.std.specs.List.{list_any}
use Rattle.std.proofs.lemmas.Bool.{false≢true, both_ways, cases_Bool, or_left, eq-eqb, false_from_ne_true, Decides.nat_tests}
use Rattle.mml_ids.specs.Search.{some_below}
use Rattle.mml_ids.proofs.SearchLemmas.{some_below-find, some_below-none}
use Rattle.mml_rules.specs.{declared.rule.Rule.Rule, Configuration.Configuration, Rules.guard, Rules.is_privileged, Matching.IsStable, Matching.IsMaximal}
use Rattle.mml_rules.proofs.{EnabledKindLemmas.idle-guard, MeaningLemmas.privileged-means}
use Rattle.mml_lab.specs.Rosters.{RosterValue, owners_of, owns}
use Rattle.mml_board.specs.{declared.event.Event.Event, Events.is_any_chosen, Events.is_legal, Runs.is_legal_list, Runs.world_of}
use Rattle.mml_board.specs.World.{World, size, configuration, chosen_at, IsWorld}
use Rattle.mml_board.proofs.{WorldLemmas.chosen_node, RunsLemmas.list-world, RunsLemmas.size-world_of}
use Rattle.mml_board.proofs.ClausesLemmas.{is_fit, fit, legal_possible, owned_legal, grant_possible, close_possible}
use Rattle.mml_convergence.specs.{Runs.is_of_step, Rest.EachHasOwner, Rest.IsOver}
use Rattle.mml_stable.proofs.MatchingLemmas.{maximal}
use Rattle.mml_lab.specs.declared.who.Who.TheVariants as who
use Rattle.mml_board.specs.declared.event.Event.TheVariants as event

-- ---- what is chosen

-- if no move is chosen, node i has no chosen move
pub none_chosen : (xs : List (Option Rule)) (i : ℕ) → list_any is_some xs ≡ false → chosen_at xs i ≡ None
none_chosen [] i e = refl
none_chosen (Some r ∷ xs) i e = absurd (false≢true (sym e))
none_chosen (None ∷ xs) zero e = refl
none_chosen (None ∷ xs) (suc i) e = none_chosen xs i e

-- if a move is chosen for a node, some move is chosen
pub any_chosen : (xs : List (Option Rule)) (i : ℕ) → is_some (chosen_at xs i) ≡ true → list_any is_some xs ≡ true
any_chosen xs i e = grind (arith, nat_tests, none_chosen xs i)

-- ---- a privileged node has a move that may be granted

-- at a privileged node without a chosen move, some rule may be granted to each owner of the node
pub may_move : (r : RosterValue) (w : World) (i : ℕ) → IsWorld w → i < size w → is_privileged (configuration w) i ≡ true → chosen_at w.chosen i ≡ None
    → (rule : Rule) × ((s : ℕ) → owns r (who.Student s) i ≡ true → is_legal r w (event.Grant s i rule) ≡ true)
may_move r w i k lt privileged none = grind (arith, nat_tests, privileged-means, owned_legal, grant_possible)

-- no node is privileged, or some node is
pub stable_or_privileged : (c : Configuration) → IsStable c ⊎ ((i : ℕ) × (i < c.size) × (is_privileged c i ≡ true))
stable_or_privileged c = elim (cases_Bool (some_below c.size (is_privileged c))) [
  | inl on ↦ inr (some_below-find c.size (is_privileged c) on)
  | inr off ↦ inl (λ i lt. some_below-none c.size i (is_privileged c) off lt)
]

-- ---- if no node is privileged

stable_guard : (w : World) → IsWorld w → IsStable (configuration w) → (i : ℕ) (rule : Rule) → i < size w → guard (configuration w) i rule ≡ false
stable_guard w k stable i rule lt = idle-guard (configuration w) i rule k.network.lawful (stable i lt)

stable_unchosen : (w : World) → IsWorld w → IsStable (configuration w) → (i : ℕ) → is_some (chosen_at w.chosen i) ≡ false
stable_unchosen w k stable i = go (chosen_at w.chosen i) refl
  where
    go : (o : Option Rule) → chosen_at w.chosen i ≡ o → is_some (chosen_at w.chosen i) ≡ false
    go None e = ap is_some e
    go (Some rule) e = grind (arith, nat_tests, chosen_node w i k.choices, k.hold i rule e, stable_guard w k stable i rule)

none_in : (xs : List (Option Rule)) → ((i : ℕ) → is_some (chosen_at xs i) ≡ false) → list_any is_some xs ≡ false
none_in [] h = refl
none_in (x ∷ xs) h = rw (h 0, none_in xs (λ i. h (suc i)))

stable_unfit : (w : World) (e : Event) → IsWorld w → IsStable (configuration w) → is_of_step e ≡ true → is_fit w e ≡ false
stable_unfit w (event.Grant s i rule) k stable of_step = grind (arith, nat_tests, stable_guard)
stable_unfit w (event.Release i) k stable of_step = stable_unchosen w k stable i
stable_unfit w event.Close k stable of_step = none_in w.chosen (stable_unchosen w k stable)
stable_unfit w _ k stable of_step = absurd (false≢true of_step)

-- if no node is privileged, no grant, release or close is legal
pub stable_final : (r : RosterValue) (w : World) (e : Event) → IsWorld w → IsStable (configuration w) → is_of_step e ≡ true → is_legal r w e ≡ false
stable_final r w e k stable of_step =
    false_from_ne_true (is_legal r w e) (λ legal. both_ways (is_fit w e) (stable_unfit w e k stable of_step) (fit w e (legal_possible r w e legal)))

-- ---- a run that is over

-- if a node has an owner, some student owns it
pub first_owner : (r : RosterValue) (i : ℕ) → 0 < length (owners_of r i) → (s : ℕ) × (owns r (who.Student s) i ≡ true)
first_owner r i some = go (owners_of r i) refl some
  where
    go : (os : List ℕ) → owners_of r i ≡ os → 0 < length os → (s : ℕ) × (owns r (who.Student s) i ≡ true)
    go [] e h = absurd (omega arith)
    go (s ∷ os) e h = (s, ap (list_any (λ o. o == s)) e ∙ or_left (s == s) (list_any (λ o. o == s) os) (eq-eqb s s refl))

over_stable : (r : RosterValue) (w : World) → IsWorld w → EachHasOwner r (size w) → IsOver r w → IsStable (configuration w)
over_stable r w k owned over i lt = false_from_ne_true (is_privileged (configuration w) i) (λ privileged.
    let close = λ (any : is_any_chosen w ≡ true). owned_legal r w event.Close refl (close_possible w any) in
    let idle : is_any_chosen w ≡ false = grind (arith, nat_tests, over.no_close, close) in
    let move = may_move r w i k lt privileged (none_chosen w.chosen i idle) in
    let owner = first_owner r i (owned i lt) in
    both_ways (is_legal r w (event.Grant owner.0 i move.0)) (over.no_grant owner.0 i move.0) (move.1 owner.0 owner.1))

-- if a run is over, no node is privileged, and each link has an end in a pair
pub ended : (r : RosterValue) (w : World) (es : List Event) → IsWorld w → EachHasOwner r (size w) → is_legal_list r w es ≡ true → IsOver r (world_of w es)
    → IsStable (configuration (world_of w es)) × IsMaximal (configuration (world_of w es))
ended r w es k owned legal over =
    let k' = list-world r w es k legal in
    let stable = over_stable r (world_of w es) k' (λ i lt. owned i (omega (arith, size-world_of w es))) over in
    (stable, maximal (configuration (world_of w es)) k'.network.lawful stable)
