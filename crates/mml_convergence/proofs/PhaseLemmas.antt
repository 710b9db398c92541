-- A phase of four steps: the low nodes seduce the highest free node, b; b marries the lowest, r; both update; and the
-- others abandon b. Which nodes are low is a parameter. A free node is one that isn't married.
use Rattle.std.proofs.Common.{◌≡◌, ℕ, suc, ◌+◌, ◌*◌, ◌-◌, ◌<◌, ◌≤◌, ◌⊎◌, inl, inr, Bool, true, false, ◌&&◌, ◌||◌, ◌==◌, nat_lt, Option, None, Some, sym, refl, ap, ◌∙◌, arith}
use Rattle.std.proofs.lemmas.Bool.{both_ways, false_from_ne_true, and_from, or_cases, cases_lt, cases_eq, cases_Bool, lt-ltb, eqb-true, eq-eqb, ne_eqb, Decides.nat_tests}
use Rattle.mml_rules.specs.{declared.rule.Rule.Rule, Configuration.Configuration, Configuration.IsLawful, Configuration.holds}
use Rattle.mml_rules.{specs.Rules.guard, specs.Rules.is_privileged, specs.Rules.greatest_candidate, specs.Meaning.IsCandidate, proofs.RulesLemmas.married-from}
use Rattle.mml_convergence.proofs.MoveLemmas.{IsMoved, kept, turned}
use Rattle.mml_convergence.proofs.IdleLemmas.{settled, waiting, lonely, may_update, may_abandon, seduces_greatest}

-- a network of n nodes: in each phase r, each free low node is linked to the highest free node; only low nodes are
-- linked to higher ones
pub record Shape (n : ℕ) (low : ℕ → Bool) (c : Configuration) : Type 0 where
  pub size : c.size ≡ n
  pub lawful : IsLawful c
  pub joined : (r b i : ℕ) → r + b + 1 ≡ n → 2 * r + 2 ≤ n → r ≤ i → i < b → low i ≡ true → (c.linked i b ≡ true) × (c.linked b i ≡ true)
  pub upward : (i j : ℕ) → c.linked i j ≡ true → i < j → low i ≡ true
  pub lowest : (r : ℕ) → 2 * r + 2 ≤ n → low r ≡ true

-- the first r nodes and the last r are married, node i to node n - 1 - i, and m is true at each
abbrev pub Couples : (n r : ℕ) → Configuration → Type 0
Couples n r c = (i j : ℕ) → i < r → i + j + 1 ≡ n → (c.p i ≡ Some j) × (c.p j ≡ Some i) × (c.m i ≡ true) × (c.m j ≡ true)

-- the nodes from r on and below b that are low (or aren't, if is_low is false) have the pointer `at` and m false
abbrev pub Between : (r b : ℕ) (low : ℕ → Bool) (is_low : Bool) → Option ℕ → Configuration → Type 0
Between r b low is_low at c = (i : ℕ) → r ≤ i → i < b → low i ≡ is_low → (c.p i ≡ at) × (c.m i ≡ false)

-- before phase r, each node that isn't married has a null pointer and m false
pub record Seated (n : ℕ) (low : ℕ → Bool) (r : ℕ) (c : Configuration) : Type 0 where
  pub shape : Shape n low c
  pub couples : Couples n r c
  pub free : (i : ℕ) → r ≤ i → i + r < n → (c.p i ≡ None) × (c.m i ≡ false)

-- each node is in one of the r couples, or is free
abbrev pub Class : (n r i : ℕ) → Type 0
Class n r i = ((j : ℕ) × (i + j + 1 ≡ n) × ((i < r) ⊎ (j < r))) ⊎ ((r ≤ i) × (i + r < n))

pub class : (n r i : ℕ) → i < n → Class n r i
class n r i lt = elim (cases_lt i r) [
  | inl less ↦ inl (n - (i + 1), omega (arith, lt), inl less)
  | inr ge ↦ elim (cases_lt (i + r) n) [ inr far ↦ inl (n - (i + 1), omega (arith, lt), inr (omega (arith, far, lt))) | inl near ↦ inr (ge, near) ]
]

-- a node of a couple points at its partner, the partner points back, and m is true
pub mate : (n r i j : ℕ) (c : Configuration) → Couples n r c → i + j + 1 ≡ n → (i < r) ⊎ (j < r) → (c.p i ≡ Some j) × (c.p j ≡ Some i) × (c.m i ≡ true)
mate n r i j c couples e (inl lt) = let x = couples i j lt e in (x.0, x.1, x.2)
mate n r i j c couples e (inr lt) = let x = couples j i lt (omega (arith, e)) in (x.1, x.0, x.3)

pub some_same : (a b : ℕ) → Some a ≡ Some b → a ≡ b
some_same a b e = cc

module _ (c d : Configuration) (t : ℕ → Bool) (rule : Rule) (e : IsMoved c d t rule) where
  pub shaped : (n : ℕ) (low : ℕ → Bool) → Shape n low c → Shape n low d
  shaped n low s = record {
    size = e.size ∙ s.size;
    lawful = e.lawful;
    joined = λ r b i sum room from below is_low. let z = s.joined r b i sum room from below is_low in (e.linked i b ∙ z.0, e.linked b i ∙ z.1);
    upward = λ i j linked lt. s.upward i j (sym (e.linked i j) ∙ linked) lt;
    lowest = s.lowest;
  }

-- if the rule isn't applied at nodes of couples, these couples stay
pub couples_kept : (n r : ℕ) (c d : Configuration) (t : ℕ → Bool) (rule : Rule) → IsMoved c d t rule → c.size ≡ n → 2 * r ≤ n → Couples n r c
    → ((i : ℕ) → i < n → (i < r) ⊎ (n ≤ i + r) → t i ≡ false) → Couples n r d
couples_kept n r c d t rule e size few couples off i j lt sum =
    let here = kept c d t rule e i (omega (arith, lt, sum, size, few)) (off i (omega (arith, lt, sum)) (inl lt)) in
    let there = kept c d t rule e j (omega (arith, lt, sum, size)) (off j (omega (arith, sum)) (inr (omega (arith, lt, sum)))) in
    grind (arith, nat_tests, couples i j lt sum, here, there)

-- a number that has a pointer is a node
pub owner_in : (n : ℕ) (low : ℕ → Bool) (c : Configuration) → Shape n low c → (j i : ℕ) → c.p j ≡ Some i → j < n
owner_in n low c s j i e = let range = s.lawful.in_range j i (s.lawful.to_linked j i e) in omega (arith, range.0, s.size)

-- if no free node points at a free node, no node does
unpointed : (n r : ℕ) (low : ℕ → Bool) (c : Configuration) → Shape n low c → Couples n r c → (i : ℕ) → r ≤ i → i + r < n
    → ((j : ℕ) → r ≤ j → j + r < n → c.p j ≡ Some i → ⊥) → (j : ℕ) → c.p j ≡ Some i → ⊥
unpointed n r low c s couples i from near free j e = elim (class n r j (owner_in n low c s j i e)) [
  | inr x ↦ free j x.0 x.1 e
  | inl x ↦
      let same = some_same x.0 i (sym (mate n r j x.0 c couples x.1 x.2).0 ∙ e) in
      elim x.2 [ inl lt ↦ omega (arith, lt, same, x.1, near) | inr lt ↦ omega (arith, lt, same, from) ]
]

-- the nodes of the couples aren't privileged, so no node is privileged if no free node is
free_idle : (n r : ℕ) (low : ℕ → Bool) (c : Configuration) → Shape n low c → Couples n r c → (i : ℕ) → i < c.size
    → (r ≤ i → i + r < n → is_privileged c i ≡ false) → is_privileged c i ≡ false
free_idle n r low c s couples i lt free = elim (class n r i (omega (arith, lt, s.size))) [
  | inl x ↦ let y = mate n r i x.0 c couples x.1 x.2 in settled c s.lawful i x.0 y.0 y.1 y.2
  | inr x ↦ free x.0 x.1
]

-- ---- phase r, in which r marries b, the highest free node

module _ (n : ℕ) (low : ℕ → Bool) (r b : ℕ) (sum : r + b + 1 ≡ n) (room : 2 * r + 2 ≤ n) where
  -- q nodes on each side are in couples; of the free nodes below b, the low ones point at b, and the others have null
  -- pointers; b has the pointer `to`, and m says `known`
  pub record Stage (q : ℕ) (to : Option ℕ) (known : Bool) (c : Configuration) : Type 0 where
    pub shape : Shape n low c
    pub couples : Couples n q c
    pub courting : Between q b low true (Some b) c
    pub rest : Between q b low false None c
    pub bride : (c.p b ≡ to) × (c.m b ≡ known)

  -- the free low nodes point at b, and the other free nodes have null pointers
  abbrev pub Courted : Configuration → Type 0
  Courted c = Stage r None false c

  -- b has married r, but m is still false at both
  abbrev pub Engaged : Configuration → Type 0
  Engaged c = Stage r (Some r) false c

  -- r and b are married, with m true at both
  abbrev pub Wed : Configuration → Type 0
  Wed c = Stage (suc r) (Some r) true c

  -- ---- the nodes that seduce, marry, update and abandon

  abbrev pub courts : ℕ → Bool
  courts i = nat_lt r (i + 1) && (nat_lt i b && low i)

  abbrev pub marries_now : ℕ → Bool
  marries_now i = i == b

  abbrev pub learns : ℕ → Bool
  learns i = (i == b) || (i == r)

  abbrev pub leaves : ℕ → Bool
  leaves i = nat_lt r i && (nat_lt i b && low i)

  pub courts-means : (i : ℕ) → courts i ≡ true → (r ≤ i) × (i < b) × (low i ≡ true)
  courts-means i on = grind (arith, nat_tests)

  pub courts-from : (i : ℕ) → r ≤ i → i < b → low i ≡ true → courts i ≡ true
  courts-from i from below is = and_from _ _ (lt-ltb r (i + 1) (omega (arith, from))) (and_from _ _ (lt-ltb i b below) is)

  pub leaves-means : (i : ℕ) → leaves i ≡ true → (r < i) × (i < b) × (low i ≡ true)
  leaves-means i on = grind (arith, nat_tests)

  pub leaves-from : (i : ℕ) → r < i → i < b → low i ≡ true → leaves i ≡ true
  leaves-from i from below is = and_from _ _ (lt-ltb r i from) (and_from _ _ (lt-ltb i b below) is)

  low_r : {c : Configuration} → Shape n low c → low r ≡ true
  low_r s = s.lowest r room

  -- ---- the step from Seated

  pub seated_free : (c : Configuration) → Seated n low r c → (i j : ℕ) → r ≤ i → i + r < n → c.p j ≡ Some i → ⊥
  seated_free c k i j from near e =
      unpointed n r low c k.shape k.couples i from near (λ j from near e. let null = (k.free j from near).0 in cc) j e

  pub candidate : (c : Configuration) → Seated n low r c → (i : ℕ) → r ≤ i → i < b → low i ≡ true → IsCandidate c i b
  candidate c k i from below is = let x = k.free b (omega (arith, sum, room)) (omega (arith, sum)) in ((k.shape.joined r b i sum room from below is).0, below, x.0, x.1)

  pub above_b : (c : Configuration) → Seated n low r c → (j : ℕ) → b < j → j < n → c.p j ≡ None → ⊥
  above_b c k j above lt null =
      let to = (mate n r j (n - (j + 1)) c k.couples (omega (arith, lt)) (inr (omega (arith, above, sum, lt)))).0 in cc

  pub greatest : (c : Configuration) → Seated n low r c → (i : ℕ) → (j : ℕ) → IsCandidate c i j → j ≤ b
  greatest c k i j x = grind (arith, nat_tests, cases_lt, above_b)

  -- b is the greatest candidate of each free low node
  pub seduces_b : (c : Configuration) → Seated n low r c → (i : ℕ) → r ≤ i → i < b → low i ≡ true → greatest_candidate c i ≡ Some b
  seduces_b c k i from below is = seduces_greatest c k.shape.lawful i b (candidate c k i from below is) (greatest c k i)

  pub seated_others : (c : Configuration) → Seated n low r c → (i : ℕ) → i < c.size → courts i ≡ false → is_privileged c i ≡ false
  seated_others c k i lt off = free_idle n r low c k.shape k.couples i lt (λ from near.
      let y = k.free i from near in
      lonely c k.shape.lawful i y.0 y.1 (λ j. seated_free c k i j from near) (λ j linked up null.
      grind (arith, nat_tests, k.shape.lawful.in_range i j linked, k.shape.upward i j linked up, above_b c k j)))

  pub then_courted : (c d : Configuration) → Seated n low r c → IsMoved c d courts Rule.Seduction → Courted d
  then_courted c d k e = record {
    shape = shaped c d courts Rule.Seduction e n low k.shape;
    couples = couples_kept n r c d courts Rule.Seduction e k.shape.size (omega (arith, room)) k.couples (λ i lt side. grind (arith, nat_tests));
    courting = grind (arith, nat_tests, turned, courts-from, seduces_b);
    rest = grind (arith, nat_tests, kept, false_from_ne_true, both_ways, courts-means);
    bride = grind (arith, nat_tests, kept, false_from_ne_true, courts-means);
  }

  -- ---- after b is seduced, no node points at a node from r to b - 1 for which `low` is false

  nobody : (q : ℕ) (to : Option ℕ) (known : Bool) (c : Configuration) → Stage q to known c → r ≤ q → q ≤ suc r → (to ≡ None) ⊎ (to ≡ Some r)
      → (i : ℕ) → q ≤ i → i < b → low i ≡ false → (j : ℕ) → c.p j ≡ Some i → ⊥
  nobody q to known c k le few at i from below high =
      unpointed n q low c k.shape k.couples i from (omega (arith, below, sum, few))
      (λ j from near e. grind (arith, nat_tests, cases_eq j b, cases_Bool, some_same, low_r))

  -- after b is seduced, only b and the free low nodes below b can be privileged
  others_idle : (q : ℕ) (to : Option ℕ) (known : Bool) (c : Configuration) → Stage q to known c → r ≤ q → q ≤ suc r → (to ≡ None) ⊎ (to ≡ Some r)
      → (i : ℕ) → i < c.size → (q ≤ i → i + q < n → (i < b) × (low i ≡ true → is_privileged c i ≡ false)) → is_privileged c i ≡ false
  others_idle q to known c k le few at i lt courter = free_idle n q low c k.shape k.couples i lt (λ from near.
      let x = courter from near in
      elim (cases_Bool (low i)) [
        | inl on ↦ x.1 on
        | inr high ↦
            let y = k.rest i from x.0 high in
            lonely c k.shape.lawful i y.0 y.1 (nobody q to known c k le few at i from x.0 high)
            (λ j linked up null. both_ways (low i) high (k.shape.upward i j linked up))
      ])

  -- ---- the step from Courted

  pub courted_others : (c : Configuration) → Courted c → (i : ℕ) → i < c.size → marries_now i ≡ false → is_privileged c i ≡ false
  courted_others c k i lt off =
      others_idle r None false c k (omega arith) (omega arith) (inl refl) i lt (λ from near.
      let below : i < b = omega (arith, near, sum, λ (e : i ≡ b). both_ways (marries_now i) off (eq-eqb i b e)) in
      (below, λ is. let y = k.courting i from below is in waiting c k.shape.lawful i b y.0 (ap (λ o. holds o i) k.bride.0) y.1 k.bride.1 below))

  pub then_engaged : (c d : Configuration) → Courted c → IsMoved c d marries_now (Rule.Marriage r) → Engaged d
  then_engaged c d k e = record {
    shape = shaped c d marries_now (Rule.Marriage r) e n low k.shape;
    couples = couples_kept n r c d marries_now (Rule.Marriage r) e k.shape.size (omega (arith, room)) k.couples (λ i lt side. grind (arith, nat_tests));
    courting = grind (arith, nat_tests, kept);
    rest = grind (arith, nat_tests, kept);
    bride = grind (arith, nat_tests, turned, eq-eqb);
  }

  -- ---- the step from Engaged

  pub groom : (c : Configuration) → Engaged c → (c.p r ≡ Some b) × (c.m r ≡ false)
  groom c k = k.courting r (omega arith) (omega (arith, room, sum)) (low_r k.shape)

  pub updates_hold : (c : Configuration) → Engaged c → (i : ℕ) → i < c.size → learns i ≡ true → guard c i Rule.Update ≡ true
  updates_hold c k i lt on = grind (arith, nat_tests, or_cases, eqb-true, groom c k, married-from, may_update)

  unequal : (i : ℕ) → learns i ≡ false → (i ≡ b → ⊥) × (i ≡ r → ⊥)
  unequal i off = grind (arith, nat_tests)

  pub engaged_others : (c : Configuration) → Engaged c → (i : ℕ) → i < c.size → learns i ≡ false → is_privileged c i ≡ false
  engaged_others c k i lt off =
      others_idle r (Some r) false c k (omega arith) (omega arith) (inr refl) i lt (λ from near.
      let other = unequal i off in
      let below : i < b = omega (arith, near, sum, other.0) in (
        below,
        λ is.
            let y = k.courting i from below is in
            waiting c k.shape.lawful i b y.0 (ap (λ o. holds o i) k.bride.0 ∙ ne_eqb r i (λ e. other.1 (sym e))) y.1 k.bride.1 below,
      ))

  pub then_wed : (c d : Configuration) → Engaged c → IsMoved c d learns Rule.Update → Wed d
  then_wed c d k e = record {
    shape = shaped c d learns Rule.Update e n low k.shape;
    couples = wed;
    courting = grind (arith, nat_tests, kept);
    rest = grind (arith, nat_tests, kept);
    bride = (pair.1, pair.3);
  }
    where
      before : Couples n r d
      before = couples_kept n r c d learns Rule.Update e k.shape.size (omega (arith, room)) k.couples (λ i lt side. grind (arith, nat_tests))

      pair : (d.p r ≡ Some b) × (d.p b ≡ Some r) × (d.m r ≡ true) × (d.m b ≡ true)
      pair = grind (arith, nat_tests, groom c k, turned, married-from)

      wed : Couples n (suc r) d
      wed i j lt total = grind (arith, nat_tests, cases_eq i r, before i j, pair)

  -- ---- the step from Wed

  pub wed_pair : (c : Configuration) → Wed c → (c.p r ≡ Some b) × (c.p b ≡ Some r) × (c.m r ≡ true) × (c.m b ≡ true)
  wed_pair c k = k.couples r b (omega arith) sum

  pub abandonments_hold : (c : Configuration) → Wed c → (i : ℕ) → i < c.size → leaves i ≡ true → guard c i Rule.Abandonment ≡ true
  abandonments_hold c k i lt on = grind (arith, nat_tests, leaves-means i on, wed_pair c k, may_abandon, ne_eqb)

  pub wed_others : (c : Configuration) → Wed c → (i : ℕ) → i < c.size → leaves i ≡ false → is_privileged c i ≡ false
  wed_others c k i lt off =
      others_idle (suc r) (Some r) true c k (omega arith) (omega arith) (inr refl) i lt (λ from near.
      let below : i < b = omega (arith, near, sum) in (below, λ is. absurd (both_ways (leaves i) off (leaves-from i from below is))))

  -- after the abandonments, the next phase can begin
  pub then_free : (c d : Configuration) → Wed c → IsMoved c d leaves Rule.Abandonment → Seated n low (suc r) d
  then_free c d k e = record {
    shape = shaped c d leaves Rule.Abandonment e n low k.shape;
    couples = couples_kept n (suc r) c d leaves Rule.Abandonment e k.shape.size (omega (arith, room)) k.couples (λ i lt side. grind (arith, nat_tests));
    free = grind (arith, nat_tests, turned, leaves-from, kept, cases_Bool);
  }
