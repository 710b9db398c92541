-- A look shows all that there is to show of its node.
use Rattle.std.proofs.lemmas.{Grind.common_steps, Bool.cases_eq, Bool.both_ways, Bool.Decides.nat_tests}
use Rattle.std.proofs.Common.{◌≡◌, ◌↔◌, ◌<◌, ◌≤◌, ◌+◌, ℕ, zero, suc, Bool, true, false, cond, List, [], ◌∷◌, map, Option, Some, option_map, inl, inr, refl, arith}
use Rattle.std.specs.List.{All, Contains, filter, range_with_len}
use Rattle.std.proofs.lemmas.List.Elements.{All-nil, All-cons, All-weaker, All-contains, Contains-append_right, Contains-get_or}
use Rattle.mml_rules.specs.{declared.regs.Regs.Regs, declared.rule.Kind.Kind, declared.rule.Rule.Rule, Configuration.IsLawful, Rules.kind_of, Rules.enabled_kind}
use Rattle.mml_rules.proofs.{EnabledKindLemmas.guard-kind, EnabledKindLemmas.kind-guard, MeaningLemmas.guard-means}
use Rattle.mml_board.specs.World.{World, size, configuration}
use Rattle.mml_policy.{specs.Shown.look_of, specs.Shown.near, proofs.NearLemmas.shown}
use Rattle.mml_stable.specs.Listed.{Rises}
use Rattle.mml_laws.specs.Looks.{IsLinkedWith, IsEnabledKind, IsWholeLook}

-- ---- the linked nodes

module _ (w : World) (i : ℕ) where
  abbrev Before : ℕ × Regs → ℕ × Regs → Type 0
  Before a b = a.0 < b.0

  -- exactly the linked nodes among the n nodes from a on are listed, in rising order
  record IsNearFrom (a n : ℕ) (ns : List (ℕ × Regs)) : Type 0 where
    only : All (λ x. (a ≤ x.0) × IsLinkedWith w i x) ns
    all : (j : ℕ) → a ≤ j → j < a + n → (configuration w).linked i j ≡ true → Contains ns (shown w j)
    rising : Rises Before ns

  all_sooner : (a n : ℕ) (ns : List (ℕ × Regs)) → IsNearFrom (a + 1) n ns → (j : ℕ) → a ≤ j → j < a + suc n → (configuration w).linked i j ≡ true
      → Contains (shown w a ∷ ns) (shown w j)
  all_sooner a n ns h j le lt l = elim (cases_eq j a) [
    | inl e ↦ rw e (Contains-get_or (shown w a ∷ ns) 0 (shown w a) (omega arith))
    | inr ne ↦ Contains-append_right (shown w a ∷ []) ns (shown w j) (h.all j (omega arith) (omega arith) l)
  ]

  with_first : (a n : ℕ) (ns : List (ℕ × Regs)) → (configuration w).linked i a ≡ true → IsNearFrom (a + 1) n ns → IsNearFrom a (suc n) (shown w a ∷ ns)
  with_first a n ns linked h =
      record { only = grind (arith, common_steps, All-weaker, All-cons); all = all_sooner a n ns h; rising = grind (arith, common_steps, All-weaker) }

  without_first : (a n : ℕ) (ns : List (ℕ × Regs)) → (configuration w).linked i a ≡ false → IsNearFrom (a + 1) n ns → IsNearFrom a (suc n) ns
  without_first a n ns apart h = grind (arith, nat_tests, cases_eq, both_ways, All-weaker)

  one_more : (a n : ℕ) (is : List ℕ) (b : Bool) → (configuration w).linked i a ≡ b → IsNearFrom (a + 1) n (map (shown w) is)
      → IsNearFrom a (suc n) (map (shown w) (cond {A = List ℕ} b (a ∷ is) is))
  one_more a n is false apart h = without_first a n (map (shown w) is) apart h
  one_more a n is true linked h = with_first a n (map (shown w) is) linked h

  near_from : (a n : ℕ) → IsNearFrom a n (map (shown w) (filter ((configuration w).linked i) (range_with_len a n)))
  near_from a zero = record { only = All-nil (λ x. (a ≤ x.0) × IsLinkedWith w i x); all = λ j le lt l. absurd (omega arith); rising = tt }
  near_from a (suc n) = one_more a n (filter ((configuration w).linked i) (range_with_len (a + 1) n)) ((configuration w).linked i a) refl (near_from (a + 1) n)

  near_whole : IsNearFrom 0 (size w) (near w i)
  unfolding near
  near_whole = near_from 0 (size w)

  -- ---- the look

  chosen_kind : (o : Option Rule) (kind : Kind) → (option_map kind_of o ≡ Some kind) ↔ ((q : Rule) × (o ≡ Some q) × (kind_of q ≡ kind))
  chosen_kind o kind = grind (arith, nat_tests)

  module _ (lawful : IsLawful (configuration w)) where
    enabled : (kind : Kind) → (enabled_kind (configuration w) i ≡ Some kind) ↔ IsEnabledKind w i kind
    enabled kind = grind (arith, nat_tests, kind-guard, guard-means, guard-kind)

    near_exact : (n : ℕ × Regs) → Contains (near w i) n ↔ IsLinkedWith w i n
    near_exact n = grind (arith, nat_tests, All-contains, near_whole)

    pub look_whole : IsWholeLook w i (look_of w i)
    look_whole =
        record { node = refl; at = refl; registers = refl; chosen = chosen_kind _; enabled = enabled; near = near_exact; rising = near_whole.rising }
