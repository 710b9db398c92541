-- What a step does to a node that isn't married, and to a married one.
use Rattle.std.proofs.Common.{◌≡◌, ℕ, zero, suc, ◌+◌, ◌<◌, ◌≤◌, ◌⊎◌, inl, inr, Bool, true, false, not, Option, None, Some, sym, refl, ap, ◌∙◌, arith}
use Rattle.std.proofs.lemmas.Bool.{both_ways, false≢true, false_from_ne_true, cases_Bool, Decides.nat_tests}
use Rattle.mml_rules.specs.{declared.rule.Rule.Rule, Configuration.Configuration, Configuration.IsLawful, Configuration.holds}
use Rattle.mml_rules.specs.Rules.{is_married, is_privileged, guard, effect, moved, step, AllHold}
use Rattle.mml_rules.proofs.{ConfigurationLemmas.holds-true, StepLemmas.step-lawful}
use Rattle.mml_rules.proofs.RulesLemmas.{married-null, married-at, married-from, suitor-from, pointee_in}
use Rattle.mml_convergence.proofs.{StepLemmas.step-free, StepLemmas.moved-m, PotentialLemmas.suitor_kept, MarriedCountLemmas.Calm, MarriedCountLemmas.apart}
use Rattle.mml_stable.proofs.MatchingLemmas.{idle-quiet, quiet-vain}
use Rattle.mml_convergence.proofs.MovesLemmas.{updates, marries, seduces, seduced, abandons, abandoned, makes}

-- ---- facts about a node

-- if node i isn't married, m is false
abbrev pub Modest : ℕ → Configuration → Type 0
Modest i c = is_married c i ≡ false → c.m i ≡ false

-- if node i isn't married, it points at no lower node
abbrev pub Upward : ℕ → Configuration → Type 0
Upward i c = is_married c i ≡ false → (j : ℕ) → c.p i ≡ Some j → i < j

-- if node i is married, m is true
abbrev pub Aware : ℕ → Configuration → Type 0
Aware i c = is_married c i ≡ true → c.m i ≡ true

-- if node i isn't married, it points at no married node
abbrev pub Hopeful : ℕ → Configuration → Type 0
Hopeful i c = is_married c i ≡ false → (j : ℕ) → c.p i ≡ Some j → is_married c j ≡ false

-- P holds of each node
abbrev pub Each : (ℕ → Configuration → Type 0) → Configuration → Type 0
Each P c = (i : ℕ) → i < c.size → P i c

-- a is linked to the higher node b, and neither is married
pub record IsOpen (a b : ℕ) (c : Configuration) : Type 0 where
  pub linked : c.linked a b ≡ true
  pub up : a < b
  pub low : is_married c a ≡ false
  pub high : is_married c b ≡ false

-- some node that isn't married points at a node
pub record IsCourting (c : Configuration) : Type 0 where
  pub who : ℕ
  pub whom : ℕ
  pub free : is_married c who ≡ false
  pub points : c.p who ≡ Some whom

-- s points at t, and the pointer of t is null
pub record IsCourted (s t : ℕ) (c : Configuration) : Type 0 where
  pub suitor : c.p s ≡ Some t
  pub null : c.p t ≡ None

-- no node is married
abbrev pub IsLone : Configuration → Type 0
IsLone c = (i : ℕ) → is_married c i ≡ false

-- some node points at a higher one
pub record IsRising (c : Configuration) : Type 0 where
  pub who : ℕ
  pub whom : ℕ
  pub points : c.p who ≡ Some whom
  pub up : who < whom

-- the pointer of a is null, and its higher neighbour b points at a or at no node
pub record IsFacing (a b : ℕ) (c : Configuration) : Type 0 where
  pub linked : c.linked a b ≡ true
  pub up : a < b
  pub null : c.p a ≡ None
  pub either : (c.p b ≡ None) ⊎ (c.p b ≡ Some a)

-- ---- moves

-- no truth value is its own opposite
pub self : (b : Bool) → b ≡ not b → ⊥
self b e = grind (arith, nat_tests, false≢true)

-- after a move of i, m says whether i was married before it
effect_right : (c : Configuration) (i : ℕ) (r : Rule) → guard c i r ≡ true → (effect c i r).m ≡ is_married c i
effect_right c i r g = grind (arith, nat_tests, marries, seduced, seduces, abandoned, abandons)

-- if an unmarried node with m false points at j, its pointer is null after its move
lets_go : (c : Configuration) (i j k : ℕ) (r : Rule) → guard c i r ≡ true → is_married c i ≡ false → c.m i ≡ false → c.p i ≡ Some j → (effect c i r).p ≡ Some k → ⊥
lets_go c i j k r g free off e to = grind (arith, nat_tests, self, updates, marries, seduced, seduces)

-- if the pointer of an unmarried node with m false is null after its move, the node pointed at another before
drops : (c : Configuration) (i : ℕ) (r : Rule) → guard c i r ≡ true → is_married c i ≡ false → c.m i ≡ false → (effect c i r).p ≡ None
    → (j : ℕ) × (c.p i ≡ Some j)
drops c i r g free off none = grind (arith, nat_tests, self, updates, seduced, abandoned)

-- ---- following pointers upwards

pub courted_free : (c : Configuration) (s t : ℕ) → IsLawful c → IsCourted s t c → is_married c s ≡ false
courted_free c s t l k = married-at c s t l k.suitor ∙ ap (λ o. holds o s) k.null

-- following the pointers from x leads to a node with a null pointer and a suitor
pub climb : (n x y : ℕ) (c : Configuration) → IsLawful c → Each Upward c → Each Hopeful c → c.size ≤ x + n → is_married c x ≡ false → c.p x ≡ Some y
    → (s : ℕ) × (t : ℕ) × IsCourted s t c
climb zero x y c l upward hopeful room free e = let range = l.in_range x y (l.to_linked x y e) in absurd (omega (arith, range.0))
climb (suc n) x y c l upward hopeful room free e = go (λ z. climb n y z c l upward hopeful) (c.p y) refl
  where
    go : ((z : ℕ) → c.size ≤ y + n → is_married c y ≡ false → c.p y ≡ Some z → (s : ℕ) × (t : ℕ) × IsCourted s t c) → (o : Option ℕ) → c.p y ≡ o
        → (s : ℕ) × (t : ℕ) × IsCourted s t c
    go further None f = (x, y, record { suitor = e; null = f })
    go further (Some z) f = grind (arith, nat_tests, l.in_range x y (l.to_linked x y e))

-- if unmarried nodes point only at higher, unmarried nodes, and one of them does point, some node with a null pointer
-- has a suitor
pub courted : (c : Configuration) → IsLawful c → Each Upward c → Each Hopeful c → IsCourting c → (s : ℕ) × (t : ℕ) × IsCourted s t c
courted c l upward hopeful k = climb c.size k.who k.whom c l upward hopeful (omega arith) k.free k.points

-- ---- if node i isn't privileged

-- if node i isn't privileged and isn't married, it points at no lower node
pub upward_idle : (c : Configuration) (i : ℕ) → IsLawful c → is_privileged c i ≡ false → Upward i c
upward_idle c i l idle free j e = (quiet-vain c i j l (idle-quiet c i l idle) e free).1

-- if married nodes have m true, an unmarried node that isn't privileged points at no married one
pub hopeful_idle : (c : Configuration) (i : ℕ) → IsLawful c → Each Aware c → is_privileged c i ≡ false → Hopeful i c
hopeful_idle c i l aware idle free j e =
    grind (arith, nat_tests, false_from_ne_true, both_ways, quiet-vain c i j l (idle-quiet c i l idle) e free, pointee_in c i j l e, aware j)

-- ---- a step

module _ (c : Configuration) (chosen : ℕ → Option Rule) (l : IsLawful c) (h : AllHold c chosen) where
  -- the configuration after the step
  abbrev next : Configuration
  next = step c chosen

  free_before : (i : ℕ) → is_married next i ≡ false → is_married c i ≡ false
  free_before = step-free c chosen l h

  -- m stays the same, or was wrong and becomes right
  m_moved : (i : ℕ) → (next.m i ≡ c.m i) ⊎ ((next.m i ≡ is_married c i) × (c.m i ≡ not (is_married c i)))
  m_moved i = moved-m c i (chosen i) (h i)

  right_after : (i : ℕ) (r : Rule) → chosen i ≡ Some r → next.m i ≡ is_married c i
  right_after i r e = ap (λ o. (moved c i o).m) e ∙ effect_right c i r (h i r e)

  -- a node that points at a higher node with m false keeps its pointer
  suitor_stays : (i j : ℕ) → c.p j ≡ Some i → c.m i ≡ false → j < i → next.p j ≡ Some i
  suitor_stays i j e off lt = holds-true (next.p j) i (suitor_kept c chosen l h i j e off lt)

  -- a new pointer of a node that isn't married after the step leads to a higher node
  made_up : (i j : ℕ) → is_married next i ≡ false → holds (c.p i) j ≡ false → next.p i ≡ Some j → i < j
  made_up i j free off to =
      let made = makes c i j (chosen i) (h i) off to in
      elim made.partner [
        | inr higher ↦ higher.0
        | inl suitor ↦
            let off = made.right ∙ married-null c i made.null in
            let married = λ (down : j < i). married-from next i j (step-lawful c chosen l h) to (suitor_stays i j suitor off down) in
            let linked = l.symmetric j i (l.to_linked j i suitor) in
            omega (arith, apart c i j l linked, λ (down : j < i). both_ways (is_married next i) free (married down))
      ]

  -- if a node moved and isn't married after the step, its pointer is null or new
  pointer_new : (i j : ℕ) (r : Rule) → Modest i c → chosen i ≡ Some r → is_married next i ≡ false → next.p i ≡ Some j → holds (c.p i) j ≡ false
  pointer_new i j r modest e free to =
      grind (arith, nat_tests, free_before i free, lets_go c i j j r (h i r e), holds-true (c.p i) j, ap (λ o. (moved c i o).p) e)

  dropped : (i : ℕ) (r : Rule) → chosen i ≡ Some r → is_married c i ≡ false → c.m i ≡ false → next.p i ≡ None → (j : ℕ) × (c.p i ≡ Some j)
  dropped i r e free off none = drops c i r (h i r e) free off (sym (ap (λ o. (moved c i o).p) e) ∙ none)

  -- ---- m is false at unmarried nodes

  pub modest_stays : (i : ℕ) → Modest i c → Modest i next
  modest_stays i modest free = grind (arith, nat_tests, free_before, m_moved)

  pub modest_moves : (i : ℕ) (r : Rule) → chosen i ≡ Some r → Modest i next
  modest_moves i r e free = right_after i r e ∙ free_before i free

  -- ---- unmarried nodes point at no lower node

  pub upward_stays : (i : ℕ) → Upward i c → Upward i next
  upward_stays i upward free j to = grind (arith, nat_tests, cases_Bool, upward (free_before i free) j, holds-true (c.p i) j, made_up i j free)

  pub upward_moves : (i : ℕ) (r : Rule) → Modest i c → chosen i ≡ Some r → Upward i next
  upward_moves i r modest e free j to = made_up i j free (pointer_new i j r modest e free to) to

  -- ---- steps in which no node is newly married

  module _ (calm : Calm c chosen) where
    free_after : (i : ℕ) → is_married c i ≡ false → is_married next i ≡ false
    free_after i e = false_from_ne_true (is_married next i) (λ m. both_ways (is_married c i) e (calm i m))

    pub aware_stays : (i : ℕ) → Aware i c → Aware i next
    aware_stays i aware on = elim (m_moved i) [ inl same ↦ same ∙ aware (calm i on) | inr changed ↦ changed.0 ∙ calm i on ]

    pub aware_moves : (i : ℕ) (r : Rule) → chosen i ≡ Some r → Aware i next
    aware_moves i r e on = right_after i r e ∙ calm i on

    pub hopeful_stays : (i : ℕ) → Hopeful i c → Hopeful i next
    hopeful_stays i hopeful free j to = grind (arith, nat_tests, cases_Bool, free_after, free_before, holds-true, makes, married-at, married-null)

    pub hopeful_moves : (i : ℕ) (r : Rule) → Modest i c → chosen i ≡ Some r → Hopeful i next
    hopeful_moves i r modest e free j to = free_after j (grind (arith, nat_tests, makes, married-at, married-null, pointer_new i j r modest e free to))

    pub open_stays : (a b : ℕ) → IsOpen a b c → IsOpen a b next
    open_stays a b k = record { linked = k.linked; up = k.up; low = free_after a k.low; high = free_after b k.high }

    -- if the pointer of t is null, its suitor keeps pointing at t
    courted_stays : Each Modest c → Each Upward c → (s t : ℕ) → IsCourted s t c → next.p s ≡ Some t
    courted_stays modest upward s t k =
        let range = l.in_range s t (l.to_linked s t k.suitor) in
        grind (arith, nat_tests, range, courted_free c s t l k, suitor_stays t s k.suitor, married-null c t k.null)

    pub courting_stays : Each Modest c → Each Upward c → Each Hopeful c → IsCourting c → IsCourting next
    courting_stays modest upward hopeful k = grind (arith, nat_tests, courted, free_after, courted_free, courted_stays)

    pub courting_moves : Each Modest c → Each Upward c → Each Hopeful c → (a b : ℕ) → IsOpen a b c → (r : Rule) → chosen a ≡ Some r → IsCourting next
    courting_moves modest upward hopeful a b k r e = go (next.p a) refl
      where
        go : (o : Option ℕ) → next.p a ≡ o → IsCourting next
        go (Some y) f = record { who = a; whom = y; free = free_after a k.low; points = f }
        go None f =
            let x = dropped a r e k.low (modest a (l.in_range a b k.linked).0 k.low) f in
            courting_stays modest upward hopeful (record { who = a; whom = x.0; free = k.low; points = x.1 })

    -- a node with a null pointer and a suitor can't move without being newly married
    pub courted_moves : Each Modest c → Each Upward c → (s t : ℕ) → IsCourted s t c → (r : Rule) → chosen t ≡ Some r → ⊥
    courted_moves modest upward s t k r e =
        let suitor = suitor-from c t s l (l.symmetric s t (l.to_linked s t k.suitor)) k.suitor in
        let off = modest t (l.in_range s t (l.to_linked s t k.suitor)).1 free in
        grind (arith, nat_tests, h t r e, ap (λ o. (moved c t o).p) e, free, off, updates, marries, lower, higher, suitor, abandoned)
      where
        free : is_married c t ≡ false
        free = married-null c t k.null

        lower : (j : ℕ) → c.p j ≡ Some t → j < t
        lower j to = let alone = courted_free c j t l (record { suitor = to; null = k.null }) in upward j (l.in_range j t (l.to_linked j t to)).0 alone t to

        higher : (j : ℕ) → next.p t ≡ Some j → t < j
        higher j = made_up t j (free_after t free) (ap (λ o. holds o j) k.null)

    pub courted_kept : Each Modest c → Each Upward c → (s t : ℕ) → IsCourted s t c → IsCourted s t next
    courted_kept modest upward s t k = grind (arith, nat_tests, courted_stays, courted_moves)

    -- ---- no node is married

    -- a pointer at a higher node stays
    pub rising_stays : Each Modest c → IsLone c → IsRising c → IsRising next
    rising_stays modest lone k =
        let range = l.in_range k.who k.whom (l.to_linked k.who k.whom k.points) in
        record { who = k.who; whom = k.whom; points = suitor_stays k.whom k.who k.points (modest k.whom range.1 (lone k.whom)) k.up; up = k.up }

    -- a new pointer leads to a higher node
    rises : IsLone c → (i j : ℕ) → next.p i ≡ Some j → holds (c.p i) j ≡ false → IsRising next
    rises lone i j to off = record { who = i; whom = j; points = to; up = made_up i j (free_after i (lone i)) off to }

    -- if the pointer of a is null, its higher neighbour b points at a or at no node, and a moves, some node then points
    -- at a higher one
    pub facing_moves : Each Modest c → IsLone c → (a b : ℕ) → IsFacing a b c → (r : Rule) → chosen a ≡ Some r → IsRising next
    facing_moves modest lone a b k r e = go (next.p a) refl
      where
        go : (o : Option ℕ) → next.p a ≡ o → IsRising next
        go (Some z) f = rises lone a z f (ap (λ o. holds o z) k.null)
        go None f = let x = dropped a r e (lone a) (modest a (l.in_range a b k.linked).0 (lone a)) f in let some = x.1 in let null = k.null in cc

    pub facing_stays : Each Modest c → IsLone c → (a b : ℕ) → IsFacing a b c → IsRising next ⊎ IsFacing a b next
    facing_stays modest lone a b k = go (chosen a) (next.p b) refl refl
      where
        go : (o : Option Rule) (p : Option ℕ) → chosen a ≡ o → next.p b ≡ p → IsRising next ⊎ IsFacing a b next
        go (Some r) p e f = inl (facing_moves modest lone a b k r e)
        go None None e f = inr (record { linked = k.linked; up = k.up; null = ap (λ o. (moved c a o).p) e ∙ k.null; either = inl f })
        go None (Some z) e f = grind (arith, nat_tests, ap (λ o. (moved c a o).p) e ∙ k.null, f, cases_Bool, holds-true, rises lone b z f)

    pub lone_stays : IsLone c → IsLone next
    lone_stays lone i = free_after i (lone i)
