-- The bound is reached: on the triangle with a tail a legal list applies 20 moves.
use Rattle.std.proofs.Common.{◌≡◌, ◌==◌, ℕ, zero, suc, ◌-◌, ◌<◌, nat_lt, Bool, true, false, ◌&&◌, ◌||◌, Option, None, Some, is_some, is_none, List, [], ◌∷◌, map, length, set, replicate, sym}
use Rattle.std.proofs.Common.{refl, ap, ◌∙◌, subst, arith, rules}
use Rattle.std.specs.{Prelude.nat_le, List.list_any, List.range_with_len, Ordering.nat_cmp}
use Rattle.std.proofs.lemmas.Bool.{and_parts, and_from, both_ways, eqb-true, leb-true, false≢true, Decides.nat_tests}
use Rattle.mml_ids.specs.Search.{count_below}
use Rattle.mml_rules.specs.{declared.regs.Regs.Regs, declared.rule.Rule.Rule, Configuration.Configuration, Configuration.IsLawful, Rules.is_married, Rules.has_suitor, Rules.greatest_candidate, Rules.guard, Rules.moved}
use Rattle.mml_rules.specs.Network.{neighbours_at, registers_at, configuration_of, IsNetwork}
use Rattle.mml_rules.proofs.NetworkLemmas.{with_link-lawful, linked-with_link}
use Rattle.mml_lab.specs.{Labs.links_below, Labs.link_count, Rosters.RosterValue, Rosters.IsRoster, Rosters.owns}
use Rattle.mml_board.specs.{declared.event.Event.Event, Events.moved_registers, Events.chosen_count, Events.after, Runs.is_legal_list}
use Rattle.mml_board.specs.World.{World, size, configuration, chosen_at, IsWorld}
use Rattle.mml_board.proofs.{WorldLemmas.size-after, WorldLemmas.hold-none, ClausesLemmas.owned_legal, ClausesLemmas.grant_possible, ClausesLemmas.close_possible}
use Rattle.mml_convergence.specs.{Potential.potential, Potential.whole_potential, Moves.applied_over}
use Rattle.mml_convergence.specs.Examples.{unlinked, triangle, triangle_world, sole_owner, twenty_moves}
use Rattle.std.specs.FinSet as sets
use Rattle.mml_lab.specs.declared.who.Who.TheVariants as who
use Rattle.mml_board.specs.declared.event.Event.TheVariants as event

-- ---- a run that is computed from a list of registers and a test of links, which is simpler than sets

-- the configuration with these links and registers
abbrev shape : (ℕ → ℕ → Bool) → List Regs → Configuration
shape linked registers = record { size = length registers; linked = linked; p = λ i. (registers_at registers i).p; m = λ i. (registers_at registers i).m }

-- the number of chosen moves
abbrev chosen_among : List Regs → List (Option Rule) → ℕ
chosen_among registers chosen = count_below (length registers) (λ i. is_some (chosen_at chosen i))

-- the events are grants of student 0 and closes; they are legal if this student owns the nodes, and they apply n moves
abbrev tells : (ℕ → ℕ → Bool) → List Regs → List (Option Rule) → List Event → ℕ → Bool
tells linked registers chosen [] n = n == 0
tells linked registers chosen (event.Grant s i rule ∷ es) n =
    (s == 0) &&
    ((nat_lt i (length registers) && (is_none (chosen_at chosen i) && guard (shape linked registers) i rule))
    && tells linked registers (set chosen i (Some rule)) es n)
tells linked registers chosen (event.Close ∷ es) n =
    list_any is_some chosen && (nat_le (chosen_among registers chosen) n &&
    tells linked (map (λ i. moved (shape linked registers) i (chosen_at chosen i)) (range_with_len 0 (length registers)))
    (replicate (length registers) None) es (n - chosen_among registers chosen))
tells linked registers chosen (_ ∷ es) n = false

-- if the test above is true of a list, the list is legal in each world with these links, registers and choices, and
-- applies n moves
sound : (r : RosterValue) (w : World) (es : List Event) (n : ℕ) → ((i : ℕ) → i < size w → owns r (who.Student 0) i ≡ true)
    → tells (configuration w).linked w.network.registers w.chosen es n ≡ true
    → (is_legal_list r w es ≡ true) × (applied_over w es ≡ n)
unfolding moved_registers chosen_count
sound r w [] n owned t = (refl, sym (eqb-true n 0 t))
sound r w (event.Grant s i rule ∷ es) n owned t =
    let x = and_parts (s == 0) _ t in
    let y = and_parts (nat_lt i (size w) && (is_none (chosen_at w.chosen i) && guard (configuration w) i rule)) _ x.1 in
    let may : (s ≡ 0) × (i < size w) × (chosen_at w.chosen i ≡ None) × (guard (configuration w) i rule ≡ true) =
    grind (arith, nat_tests, chosen_at w.chosen i) in
    let owner : owns r (who.Student s) i ≡ true = ap (λ k. owns r (who.Student k) i) may.0 ∙ owned i may.1 in
    let possible = grant_possible w s i rule may.1 may.2 may.3 in
    let rest = sound r (after w (event.Grant s i rule)) es n owned y.1 in
    let last = rest.1 in
    (and_from _ _ (owned_legal r w (event.Grant s i rule) owner possible) rest.0, omega (arith, last))
sound r w (event.Close ∷ es) n owned t =
    let x = and_parts (list_any is_some w.chosen) _ t in
    let y = and_parts (nat_le (chosen_among w.network.registers w.chosen) n) _ x.1 in
    let kept = size-after w event.Close in
    let rest = sound r (after w event.Close) es (n - chosen_among w.network.registers w.chosen) (λ i lt. owned i (omega (arith, kept, lt))) y.1 in
    let le = leb-true (chosen_among w.network.registers w.chosen) n y.0 in
    let last = rest.1 in
    (and_from _ _ (owned_legal r w event.Close refl (close_possible w x.0)) rest.0, omega (arith, le, last))
sound r w (_ ∷ es) n owned t = absurd (false≢true t)

-- ---- the triangle with a tail

-- the links with one more, between a and b
abbrev linking : (a b : ℕ) → (ℕ → ℕ → Bool) → ℕ → ℕ → Bool
linking a b linked i j = ((i == b) && (j == a)) || (((i == a) && (j == b)) || linked i j)

abbrev links : ℕ → ℕ → Bool
links = linking 2 3 (linking 0 2 (linking 1 2 (linking 0 1 (λ i j. false))))

none_linked : (i j : ℕ) → (configuration_of unlinked).linked i j ≡ false
none_linked i j = ap (λ s. sets.contains s j) (empty_row i) ∙ sets.contains-empty nat_cmp j
  where
    empty_row : (i : ℕ) → neighbours_at unlinked.neighbours i ≡ sets.empty
    empty_row (suc (suc (suc (suc i)))) = refl
    empty_row _ = refl

linked_is : (i j : ℕ) → (configuration_of triangle).linked i j ≡ links i j
linked_is i j = search (rules, linked-with_link, none_linked)

same_links : (configuration triangle_world).linked ≡ links
same_links = λ k i j. linked_is i j k

unlinked_network : IsNetwork unlinked
unlinked_network = record {
  rows = refl;
  few = omega arith;
  lawful = record {
    in_range = λ i j e. absurd (both_ways _ (none_linked i j) e);
    symmetric = λ i j e. absurd (both_ways _ (none_linked i j) e);
    no_loop = λ i. none_linked i i;
    to_linked = λ i j e. absurd (nowhere i j e);
  };
}
  where
    nowhere : (i j : ℕ) → (registers_at unlinked.registers i).p ≡ Some j → ⊥
    nowhere (suc (suc (suc (suc i)))) j e = cc
    nowhere _ j e = cc

triangle_network : IsNetwork triangle
triangle_network =
    let a = with_link-lawful unlinked 0 1 unlinked_network (omega arith) (omega arith) (λ e. absurd (omega arith)) in
    let b = with_link-lawful _ 1 2 a (omega arith) (omega arith) (λ e. absurd (omega arith)) in
    let c = with_link-lawful _ 0 2 b (omega arith) (omega arith) (λ e. absurd (omega arith)) in
    with_link-lawful _ 2 3 c (omega arith) (omega arith) (λ e. absurd (omega arith))

points_over : (i j : ℕ) → (registers_at triangle_world.network.registers i).p ≡ Some j → (configuration triangle_world).linked i j ≡ true
points_over i j e = linked_is i j ∙ (grind (arith, nat_tests))

-- the triangle with a tail is a lawful world
pub world : IsWorld triangle_world
world =
    let t = triangle_network in
    let lawful : IsLawful (configuration triangle_world) =
    record { in_range = t.lawful.in_range; symmetric = t.lawful.symmetric; no_loop = t.lawful.no_loop; to_linked = points_over } in
    record { network = record { rows = t.rows; few = t.few; lawful = lawful }; choices = refl; hold = hold-none 4 (configuration triangle_world) }

-- the sum of the potentials of the triangle with a tail is 20
pub triangle_potential : whole_potential (configuration triangle_world) ≡ 20
unfolding potential whole_potential is_married
triangle_potential = ap (λ linked. whole_potential (shape linked triangle_world.network.registers)) same_links

-- ---- the run

-- the roster of the one student is lawful
pub roster : IsRoster sole_owner
roster = grind (arith, nat_tests)

told : tells links triangle_world.network.registers triangle_world.chosen twenty_moves 20 ≡ true
unfolding is_married has_suitor greatest_candidate
told = refl

-- the list of twenty moves is legal on the triangle with a tail, and its closes apply 20 moves
pub run : (is_legal_list sole_owner triangle_world twenty_moves ≡ true) × (applied_over triangle_world twenty_moves ≡ 20)
run = sound sole_owner triangle_world twenty_moves 20 (grind (arith, nat_tests))
    (subst (λ linked. tells linked triangle_world.network.registers triangle_world.chosen twenty_moves 20 ≡ true) (sym same_links) told)

-- the triangle with a tail has four links
pub four : link_count triangle_world.network ≡ 4
unfolding link_count
four = ap (λ linked. links_below (shape linked triangle_world.network.registers) 4) same_links
