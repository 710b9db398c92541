-- What follows if the guard of a rule holds, and which pointers a move makes or drops.
use Rattle.std.proofs.Common.{◌≡◌, ◌==◌, ℕ, ◌<◌, Bool, true, false, not, ◌&&◌, ◌⊎◌, Option, None, Some, is_some, is_none, refl, nat_lt, arith}
use Rattle.std.proofs.lemmas.Bool.{and_parts, or_cases, not-true, both_ways, false≢true, ltb-true, eqb-true, Decides.nat_tests}
use Rattle.mml_rules.specs.{declared.rule.Rule.Rule, Configuration.Configuration, Configuration.holds}
use Rattle.mml_rules.specs.Rules.{is_married, has_suitor, greatest_candidate, m_is_right, guard, moved}
use Rattle.mml_rules.proofs.{ConfigurationLemmas.holds-true, ConfigurationLemmas.holds-from, RulesLemmas.none-null, RulesLemmas.greatest-is, MeaningLemmas.beq-true}
use Rattle.mml_convergence.proofs.StepLemmas.{beq-false}

-- if a move is chosen, its guard holds
abbrev pub Holds : Configuration → ℕ → Option Rule → Type 0
Holds c i o = (r : Rule) → o ≡ Some r → guard c i r ≡ true

-- ---- what follows from the guards

pub record Marries (c : Configuration) (i j : ℕ) : Type 0 where
  pub right : c.m i ≡ is_married c i
  pub null : c.p i ≡ None
  pub linked : c.linked i j ≡ true
  pub suitor : c.p j ≡ Some i

-- if i may marry j, the pointer of i is null, its m is right, and j is linked to i and points at i
pub marries : (c : Configuration) (i j : ℕ) → guard c i (Rule.Marriage j) ≡ true → Marries c i j
marries c i j h = grind (arith, nat_tests, and_parts, beq-true, none-null, holds-true)

pub record Seduces (c : Configuration) (i j : ℕ) : Type 0 where
  pub right : c.m i ≡ is_married c i
  pub null : c.p i ≡ None
  pub linked : c.linked i j ≡ true
  pub higher : i < j
  pub free : c.p j ≡ None
  pub m : c.m j ≡ false

-- if i may seduce j, its greatest candidate, then m of i is right, j is higher, and the pointers of both are null
pub seduces : (c : Configuration) (i j : ℕ) → guard c i Rule.Seduction ≡ true → greatest_candidate c i ≡ Some j → Seduces c i j
seduces c i j h e =
    let may = and_parts (m_is_right c i) (is_none (c.p i) && (not (has_suitor c i) && is_some (greatest_candidate c i))) h in
    let candidate = and_parts (c.linked i j) (nat_lt i j && (is_none (c.p j) && not (c.m j))) (greatest-is c i j e) in
    grind (arith, nat_tests, may, candidate, beq-true, none-null, ltb-true, not-true)

-- a node that may seduce has a greatest candidate
pub seduced : (c : Configuration) (i : ℕ) → guard c i Rule.Seduction ≡ true → (j : ℕ) × (greatest_candidate c i ≡ Some j)
seduced c i h = grind (arith, nat_tests, and_parts, false≢true)

pub record Abandons (c : Configuration) (i j : ℕ) : Type 0 where
  pub right : c.m i ≡ is_married c i
  pub unanswered : holds (c.p j) i ≡ false
  pub vain : (c.m j ≡ true) ⊎ (j < i)

-- if i may abandon j, then m of i is right, and j doesn't point back, and has m true or is lower
pub abandons : (c : Configuration) (i j : ℕ) → guard c i Rule.Abandonment ≡ true → c.p i ≡ Some j → Abandons c i j
abandons c i j h e = grind (arith, nat_tests, and_parts, beq-true, not-true, or_cases, ltb-true)

-- a node that may abandon points at some node
pub abandoned : (c : Configuration) (i : ℕ) → guard c i Rule.Abandonment ≡ true → (j : ℕ) × (c.p i ≡ Some j)
abandoned c i h = grind (arith, nat_tests, and_parts, false≢true)

-- ---- which node is charged for a move

-- a node is charged for its own move, but not for a marriage with a lower node
abbrev pub pays : Option Rule → ℕ → Bool
pays None i = false
pays (Some (Rule.Marriage j)) i = not (nat_lt j i)
pays (Some _) i = true

-- k marries the lower node i, so this move of k is charged to i
abbrev pub marries_lower : Option Rule → (k i : ℕ) → Bool
marries_lower (Some (Rule.Marriage j)) k i = (j == i) && nat_lt i k
marries_lower _ k i = false

-- if `marries_lower` is true, k marries i, and i is lower than k
pub marries_lower-means : (o : Option Rule) (k i : ℕ) → marries_lower o k i ≡ true → (o ≡ Some (Rule.Marriage i)) × (i < k)
marries_lower-means o k i e = grind (arith, nat_tests, false≢true, and_parts, eqb-true, ltb-true)

-- ---- what a move does

-- if an update may be applied, m is wrong
pub updates : (c : Configuration) (i : ℕ) → guard c i Rule.Update ≡ true → c.m i ≡ not (is_married c i)
updates c i h = beq-false (c.m i) (is_married c i) (not-true _ h)

-- what holds if a move of i makes a pointer at j: before, the pointer of i is null, m of i is right, and j points at i
-- or is a candidate
pub record Makes (c : Configuration) (i j : ℕ) : Type 0 where
  pub right : c.m i ≡ is_married c i
  pub null : c.p i ≡ None
  pub partner : (c.p j ≡ Some i) ⊎ ((i < j) × (c.p j ≡ None) × (c.m j ≡ false))

-- if i points at j after its move and not before it, `Makes` holds
pub makes : (c : Configuration) (i j : ℕ) (o : Option Rule) → Holds c i o → holds (c.p i) j ≡ false → (moved c i o).p ≡ Some j → Makes c i j
makes c i j (Some (Rule.Marriage k)) h off e = grind (arith, nat_tests, marries c i k (h (Rule.Marriage k) refl))
makes c i j (Some Rule.Seduction) h off e = grind (arith, nat_tests, seduces c i j (h Rule.Seduction refl) e)
makes c i j (Some Rule.Abandonment) h off e = cc
makes c i j _ h off e = absurd (both_ways (holds (c.p i) j) off (holds-from (c.p i) j e))

-- if i points at j before its move and not after it, the move is an abandonment of j, and keeps m
pub drops : (c : Configuration) (i j : ℕ) (o : Option Rule) → Holds c i o → c.p i ≡ Some j → holds (moved c i o).p j ≡ false → Abandons c i j × ((moved c i o).m ≡ c.m i)
drops c i j (Some (Rule.Marriage k)) h e off = grind (arith, marries c i k (h (Rule.Marriage k) refl))
drops c i j (Some Rule.Seduction) h e off =
    let some = seduced c i (h Rule.Seduction refl) in
    grind (arith, nat_tests, seduces c i some.0 (h Rule.Seduction refl) some.1)
drops c i j (Some Rule.Abandonment) h e off = (abandons c i j (h Rule.Abandonment refl) e, refl)
drops c i j _ h e off = absurd (both_ways (holds (c.p i) j) off (holds-from (c.p i) j e))
