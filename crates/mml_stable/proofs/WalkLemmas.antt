-- The walk along the pointers rises and ends at a node that is privileged or points nowhere. The walk finds the witness
-- of an open link. A climb is the walk with a limit on the number of its steps.
use Rattle.std.proofs.Common.{◌≡◌, ℕ, zero, suc, ◌<◌, ◌≤◌, ◌+◌, true, false, ◌⊎◌, inl, inr, None, Some, sym, refl, ap, ◌∙◌, arith, add-one}
use Rattle.std.proofs.lemmas.Bool.{both_ways, Decides.nat_tests}
use Rattle.mml_rules.specs.{declared.rule.Rule.Rule, declared.rule.Kind.Kind, Configuration.Configuration, Configuration.IsLawful}
use Rattle.mml_rules.specs.Rules.{is_married, guard, kind_of, enabled_kind, is_privileged}
use Rattle.mml_rules.proofs.{RulesLemmas.none-null, RulesLemmas.pointee_in, EnabledKindLemmas.guard-kind, EnabledKindLemmas.kind-guard}
use Rattle.mml_stable.specs.Walk.{climb, top, unless_seduction, walk, certificate, LeadsTo, LeadsTo.privileged, LeadsTo.null, LeadsTo.onward}
use Rattle.mml_stable.proofs.MatchingLemmas.{IsQuiet, idle-quiet, idle-settled, quiet-settled, quiet-vain, quiet-alone, may_seduce}

-- the walk from i ends at x, which is i or a node at which some node points
pub record EndsAt (c : Configuration) (i x : ℕ) : Type 0 where
  pub in_range : x < c.size
  pub leads : LeadsTo c i x
  pub from : (x ≡ i) ⊎ ((y : ℕ) × (c.p y ≡ Some x))

-- a climb stays at a privileged node
pub climb_stops : (c : Configuration) (n i : ℕ) → is_privileged c i ≡ true → climb c n i ≡ i
climb_stops c n i h = grind (arith, nat_tests)

-- a climb stays at a node that isn't privileged and points nowhere
pub climb_null : (c : Configuration) (n i : ℕ) → is_privileged c i ≡ false → c.p i ≡ None → climb c n i ≡ i
climb_null c zero i h p = refl
climb_null c (suc n) i h p = rw (h, p) (climb_null c n i h p)

-- a climb goes on from a node that isn't privileged to the one that it points at
pub climb_onward : (c : Configuration) (n m i j : ℕ) → m ≡ n + 1 → is_privileged c i ≡ false → c.p i ≡ Some j → climb c m i ≡ climb c n j
climb_onward c n m i j e h p = ap (λ k. climb c k i) (e ∙ add-one n) ∙ rw (h, p) refl

pub climb-ends : (c : Configuration) → IsLawful c → (n i : ℕ) → c.size ≤ i + n → i < c.size → (is_married c i ≡ false) ⊎ (c.m i ≡ false)
    → EndsAt c i (climb c n i)
climb-ends c l zero i room i_in free = absurd (omega arith)
climb-ends c l (suc n) i room i_in free =
    grind (arith, climb_null c n i, climb-ends c l n, quiet-vain c i, idle-quiet c i l, idle-settled c i l, pointee_in c i, privileged, null, onward)

-- the walk from a node that isn't married, or has m false, ends at this node or at a node at which some node points
pub top-ends : (c : Configuration) → IsLawful c → (i : ℕ) → i < c.size → (is_married c i ≡ false) ⊎ (c.m i ≡ false) → EndsAt c i (top c i)
unfolding top
top-ends c l i i_in free = climb-ends c l c.size i (omega arith) i_in free

leads-null : (c : Configuration) (i x : ℕ) → LeadsTo c i x → is_privileged c x ≡ false → c.p x ≡ None
leads-null c i x (privileged h) e = absurd (both_ways _ e h)
leads-null c i x (null h p) e = p
leads-null c i x (onward h p r) e = leads-null c _ x r e

only_seduction : (x : ℕ) (k : Kind) → unless_seduction x (Some k) ≡ None → k ≡ Kind.Seduction
only_seduction x k h = grind (arith, nat_tests)

idle_is_quiet : (c : Configuration) (x : ℕ) → IsLawful c → unless_seduction x (enabled_kind c x) ≡ None → IsQuiet c x
idle_is_quiet c x l h = record { only = λ r g. only_seduction x (kind_of r) (ap (unless_seduction x) (sym (guard-kind c x r l g)) ∙ h) }

-- if the walk from a free node finds no rule other than a seduction, the free node is quiet and has a null pointer
pub idle-stays : (c : Configuration) (i : ℕ) → IsLawful c → i < c.size → is_married c i ≡ false → walk c i ≡ None → IsQuiet c i × (c.p i ≡ None)
idle-stays c i l i_in free h = grind (arith, nat_tests, top-ends, idle_is_quiet, leads-null, kind-guard, none-null, quiet-alone)

-- a node of the network, with the kind of the rule that is enabled there
pub record IsWitness (c : Configuration) (e : ℕ × Kind) : Type 0 where
  pub node : e.0 < c.size
  pub kind : enabled_kind c e.0 ≡ Some e.1

pub walk-witness : (c : Configuration) (i : ℕ) (e : ℕ × Kind) → IsLawful c → i < c.size → is_married c i ≡ false → walk c i ≡ Some e → IsWitness c e
walk-witness c i e l i_in free h = grind (arith, nat_tests, top-ends c l i, enabled_kind c (top c i))

-- the witness of an open link is a node with the rule that is enabled there
pub certified : (c : Configuration) (a b : ℕ) → IsLawful c → c.linked a b ≡ true → a < b → is_married c a ≡ false → is_married c b ≡ false
    → IsWitness c (certificate c a b)
unfolding certificate
certified c a b l linked lt free_a free_b =
    grind (arith, walk-witness, idle-stays, guard-kind c a Rule.Seduction, may_seduce c a b, quiet-settled, l.in_range a b linked)

-- at a witness, the guard of some rule of the kind that it names holds
pub witness-guard : (c : Configuration) (e : ℕ × Kind) → IsWitness c e → (r : Rule) × (kind_of r ≡ e.1) × (guard c e.0 r ≡ true)
witness-guard c e w = kind-guard c e.0 e.1 w.kind

-- if a climb from x stays at x, and reaches the end of the walk from i, then x is this end
pub top_is : (c : Configuration) (i n x : ℕ) → climb c n x ≡ climb c c.size i → climb c n x ≡ x → x ≡ top c i
unfolding top
top_is c i n x e stays = sym stays ∙ e

-- each pointer on a walk leads to a greater node that has m false
pub rises : (c : Configuration) (i j : ℕ) → IsLawful c → is_privileged c i ≡ false → (is_married c i ≡ false) ⊎ (c.m i ≡ false) → c.p i ≡ Some j
    → (i < j) × (c.m j ≡ false)
rises c i j l idle free p =
    let up = quiet-vain c i j l (idle-quiet c i l idle) p (elim free [ inl f ↦ f | inr f ↦ sym (idle-settled c i l idle) ∙ f ]) in
    (up.1, up.0)
