-- A move is chosen at a node exactly if it was granted there last.
use Rattle.std.{proofs.lemmas.Grind.common_steps, proofs.lemmas.List.get_or-set_same, proofs.lemmas.List.get_or-set_other, specs.List.list_all}
use Rattle.std.proofs.Common.{◌≡◌, ◌↔◌, ◌⊎◌, ℕ, true, List, [], ◌∷◌, ◌++◌, length, Some, inr, refl, ap, arith}
use Rattle.std.proofs.lemmas.Bool.{and_parts, ltb-true, cases_eq, eq-eqb, Decides.nat_tests}
use Rattle.mml_rules.specs.declared.rule.Rule.{Rule}
use Rattle.mml_lab.specs.{Labs.LabValue, Labs.IsLab, Rosters.RosterValue}
use Rattle.mml_board.specs.{declared.event.Event.Event, World.World, World.IsWorld, World.chosen_at, World.opening_of, Events.is_legal, Events.after, Runs.is_legal_list, Runs.world_of}
use Rattle.mml_board.proofs.{WorldLemmas.after-world, WorldLemmas.none_at, WorldLemmas.chosen_node, EventsLemmas.dropped, ClausesLemmas.fit, ClausesLemmas.legal_possible}
use Rattle.mml_tally.{specs.Meaning.leaves, proofs.StudentsLemmas.opening-world}
use Rattle.mml_laws.specs.Choices.{IsGrantedLast}
use Rattle.mml_board.specs.declared.event.Event.TheVariants as event

module _ (w : World) (is : IsWorld w) where
  -- the event chose the rule, or the rule was chosen before and the event kept it
  one_back : (r : RosterValue) (e : Event) (i : ℕ) (q : Rule) → is_legal r w e ≡ true → chosen_at (after w e).chosen i ≡ Some q
      → ((s : ℕ) × (e ≡ event.Grant s i q)) ⊎ ((chosen_at w.chosen i ≡ Some q) × (leaves i e ≡ true))
  one_back r e i q legal h =
      grind (arith, common_steps, fit w e (legal_possible r w e legal), ltb-true, and_parts, chosen_node, dropped, cases_eq, get_or-set_same, get_or-set_other)

after_legal : (r : RosterValue) (w : World) (e : Event) → IsWorld w → is_legal r w e ≡ true → IsWorld (after w e)
after_legal r w e is legal = after-world w e is (legal_possible r w e legal)

-- the rule was chosen at first and all events kept it, or it was granted last
abbrev Stays : World → List Event → ℕ → Rule → Type 0
Stays w es i q = IsGrantedLast es i q ⊎ ((chosen_at w.chosen i ≡ Some q) × (list_all (leaves i) es ≡ true))

one_more : (e : Event) (es : List Event) (i : ℕ) (q : Rule) → IsGrantedLast es i q → IsGrantedLast (e ∷ es) i q
one_more e es i q g = record { before = e ∷ g.before; owner = g.owner; later = g.later; order = ap (λ fs. e ∷ fs) g.order; leave = g.leave }

granted_first : (es : List Event) (s i : ℕ) (q : Rule) → list_all (leaves i) es ≡ true → IsGrantedLast (event.Grant s i q ∷ es) i q
granted_first es s i q leave = record { before = []; owner = s; later = es; order = refl; leave = leave }

back : (r : RosterValue) (w : World) (es : List Event) (i : ℕ) (q : Rule) → IsWorld w → is_legal_list r w es ≡ true
    → chosen_at (world_of w es).chosen i ≡ Some q → Stays w es i q
back r w [] i q is legal h = inr (h, refl)
back r w (e ∷ es) i q is legal h =
    let both = and_parts (is_legal r w e) (is_legal_list r (after w e) es) legal in
    let rest = back r (after w e) es i q (after_legal r w e is both.0) both.1 h in
    grind (arith, nat_tests, rest, one_back w is r e i q both.0, one_more e es i q, granted_first)

stays_on : (r : RosterValue) (w : World) (es : List Event) (i : ℕ) (q : Rule) → IsWorld w → is_legal_list r w es ≡ true
    → chosen_at w.chosen i ≡ Some q → list_all (leaves i) es ≡ true → chosen_at (world_of w es).chosen i ≡ Some q
stays_on r w [] i q is legal h keep = h
stays_on r w (e ∷ es) i q is legal h keep =
    grind (arith, nat_tests, and_parts, after_legal r w e is, fit w e, legal_possible r w e, cases_eq, get_or-set_other, eq-eqb, stays_on r (after w e) es i q)

forth : (r : RosterValue) (w : World) (before : List Event) (s : ℕ) (later : List Event) (i : ℕ) (q : Rule) → IsWorld w
    → is_legal_list r w (before ++ event.Grant s i q ∷ later) ≡ true → list_all (leaves i) later ≡ true
    → chosen_at (world_of w (before ++ event.Grant s i q ∷ later)).chosen i ≡ Some q
forth r w [] s later i q is legal keep =
    let e = event.Grant s i q in
    grind (arith, nat_tests, and_parts, after_legal r w e is, fit w e, legal_possible r w e, ltb-true, get_or-set_same, stays_on r (after w e) later i q)
forth r w (e ∷ before) s later i q is legal keep = grind (arith, nat_tests, and_parts, after_legal r w e is, forth r (after w e) before s later i q)

pub granted_last : (lab : LabValue) (es : List Event) (i : ℕ) (q : Rule) → IsLab lab → is_legal_list lab.roster (opening_of lab.network) es ≡ true
    → (chosen_at (world_of (opening_of lab.network) es).chosen i ≡ Some q) ↔ IsGrantedLast es i q
granted_last lab es i q is legal = (
  grind (arith, nat_tests, back lab.roster (opening_of lab.network) es i q (opening-world lab is) legal, none_at (length lab.network.registers) i),
  λ g. rw g.order (forth lab.roster (opening_of lab.network) g.before g.owner g.later i q (opening-world lab is) (rw g.order at legal) g.leave),
)
