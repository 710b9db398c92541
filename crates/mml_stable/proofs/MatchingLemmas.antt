-- If no node is privileged, the pairs are a maximal matching.
use Rattle.std.proofs.Common.{◌≡◌, ℕ, zero, suc, ◌<◌, ◌≤◌, ◌+◌, true, false, ◌↔◌, None, Some, unwrap_or, arith}
use Rattle.std.proofs.lemmas.Bool.{false_from_ne_true, both_ways, lt-ltb, cases_order, Decides.nat_tests}
use Rattle.mml_ids.proofs.SearchLemmas.{some_below-find, some_below-at}
use Rattle.mml_rules.specs.{declared.rule.Rule.Rule, declared.rule.Kind.Kind, Matching.IsPair, Matching.IsStable, Matching.IsMaximal, Meaning.IsMarried}
use Rattle.mml_rules.specs.{Configuration.Configuration, Configuration.IsLawful, Rules.is_married, Rules.has_suitor, Rules.guard, Rules.kind_of, Rules.is_privileged}
use Rattle.mml_rules.proofs.{ConfigurationLemmas.holds-from, EnabledKindLemmas.idle-guard, MeaningLemmas.beq-true, MeaningLemmas.beq-same, MeaningLemmas.married-means}
use Rattle.mml_rules.proofs.RulesLemmas.{pointee_in, married-partner, married-at, null-none, suitor-find, greatest-none}
use Rattle.mml_stable.specs.Reports.{is_stable}

-- at a quiet node, no rule other than a seduction is enabled
pub record IsQuiet (c : Configuration) (i : ℕ) : Type 0 where
  pub only : (r : Rule) → guard c i r ≡ true → kind_of r ≡ Kind.Seduction

-- a node that isn't privileged is quiet
pub idle-quiet : (c : Configuration) (i : ℕ) → IsLawful c → is_privileged c i ≡ false → IsQuiet c i
idle-quiet c i l h = record { only = λ r g. absurd (both_ways (guard c i r) (idle-guard c i r l h) g) }

-- at a quiet node m is right
pub quiet-settled : (c : Configuration) (i : ℕ) → IsQuiet c i → c.m i ≡ is_married c i
quiet-settled c i q = grind (arith, nat_tests, beq-true (c.m i) (is_married c i), q.only Rule.Update)

-- at a node that isn't privileged m is right
pub idle-settled : (c : Configuration) (i : ℕ) → IsLawful c → is_privileged c i ≡ false → c.m i ≡ is_married c i
idle-settled c i l h = quiet-settled c i (idle-quiet c i l h)

-- a quiet node that isn't married points only at a higher node with m false
pub quiet-vain : (c : Configuration) (i j : ℕ) → IsLawful c → IsQuiet c i → c.p i ≡ Some j → is_married c i ≡ false → (c.m j ≡ false) × (i < j)
quiet-vain c i j l q p free =
    let linked = l.to_linked i j p in
    grind (arith, nat_tests, quiet-settled c i q, beq-same (c.m i) (is_married c i), q.only Rule.Abandonment, married-at c i j l p, l.no_loop i)

-- if i points at j, and the pointer of j is null, j isn't quiet, since it can point back
pub quiet-alone : (c : Configuration) (i j : ℕ) → IsLawful c → c.p i ≡ Some j → c.p j ≡ None → IsQuiet c j → ⊥
quiet-alone c i j l p n q =
    let linked = l.to_linked i j p in
    grind (arith, nat_tests, beq-same _ _ (quiet-settled c j q), q.only (Rule.Marriage i), null-none, l.symmetric i j linked, holds-from (c.p i) j p)

-- if no node is privileged, a node that isn't married has a null pointer
pub free-null : (c : Configuration) → IsLawful c → IsStable c → (n i : ℕ) → c.size ≤ i + n → i < c.size → is_married c i ≡ false → c.p i ≡ None
free-null c l s zero i room in_c free = absurd (omega arith)
free-null c l s (suc n) i room in_c free =
    let quiet : (j : ℕ) → j < c.size → IsQuiet c j = λ j h. idle-quiet c j l (s j h) in
    let here = quiet i in_c in
    let next = unwrap_or (c.p i) i in
    let within = pointee_in c i next l in
    grind (arith, nat_tests, c.m next, free-null c l s n next, quiet-vain c i next l here, quiet next, quiet-settled c next, quiet-alone c i next l)

-- if a and its higher neighbour b have null pointers, m is false at b, and a is quiet, a seduction may be applied at a
pub may_seduce : (c : Configuration) (a b : ℕ) → IsLawful c → c.linked a b ≡ true → a < b → IsQuiet c a → c.p a ≡ None → c.p b ≡ None → c.m b ≡ false
    → guard c a Rule.Seduction ≡ true
may_seduce c a b l linked lt quiet pa pb mb =
    let alone = false_from_ne_true (has_suitor c a) (λ h. let k = suitor-find c a h in quiet-alone c k.0 a l k.2 pa quiet) in
    grind (arith, nat_tests, alone, beq-same _ _ (quiet-settled c a quiet), greatest-none c a b, l.in_range a b linked, lt-ltb, null-none)

-- if a and its higher neighbour b have null pointers, and m is false at b, then a is privileged
pub no_open_link : (c : Configuration) (a b : ℕ) → IsLawful c → c.linked a b ≡ true → a < b → is_privileged c a ≡ false → c.p a ≡ None → c.p b ≡ None
    → c.m b ≡ false → ⊥
no_open_link c a b l linked lt idle pa pb mb =
    both_ways (guard c a Rule.Seduction) (idle-guard c a Rule.Seduction l idle) (may_seduce c a b l linked lt (idle-quiet c a l idle) pa pb mb)

pub paired : (c : Configuration) (i : ℕ) → is_married c i ≡ true → (j : ℕ) × IsPair c i j
paired c i h = let r = married-partner c i h in (r.0, (r.1, r.2))

-- if no node is privileged, the pairs are a maximal matching
pub maximal : (c : Configuration) → IsLawful c → IsStable c → IsMaximal c
maximal c l s a b linked =
    let free = free-null c l s c.size in
    let ends = l.in_range a b linked in
    let back = l.symmetric a b linked in
    grind (arith, nat_tests, free a, free b, paired c a, paired c b, cases_order a b, no_open_link, idle-settled)

-- `is_stable` is true exactly if no node is privileged
pub stable-means : (c : Configuration) → (is_stable c ≡ true) ↔ IsStable c
stable-means c = (
  (λ h i l. grind (arith, nat_tests, some_below-at c.size i (is_privileged c) l)),
  (λ s. grind (arith, nat_tests, some_below-find)),
)

-- if no node is privileged, m is true exactly at the married nodes
pub stable-m : (c : Configuration) (i : ℕ) → IsLawful c → IsStable c → i < c.size → (c.m i ≡ true) ↔ IsMarried c i
stable-m c i l s i_in = grind (arith, idle-settled, married-means)
