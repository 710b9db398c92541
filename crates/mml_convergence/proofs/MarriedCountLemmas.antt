-- The number of married nodes. In a step it grows by at least two, or no node is newly married.
use Rattle.std.proofs.Common.{◌≡◌, ℕ, zero, suc, ◌+◌, ◌<◌, ◌≤◌, ◌⊎◌, Bool, true, false, Option, refl, sym, subst, arith}
use Rattle.std.proofs.lemmas.Bool.{both_ways, false≢true, false_from_ne_true, Decides.nat_tests}
use Rattle.mml_ids.specs.Search.{count_below}
use Rattle.mml_ids.proofs.SearchLemmas.{some_below-find}
use Rattle.mml_rules.specs.{declared.rule.Rule.Rule, Configuration.Configuration, Configuration.IsLawful, Rules.is_married, Rules.step, Rules.AllHold}
use Rattle.mml_rules.proofs.{RulesLemmas.married-partner, RulesLemmas.married-from, StepLemmas.step-lawful}
use Rattle.mml_convergence.proofs.{StepLemmas.step_keeps, StepLemmas.step-married, NumbersLemmas.count_both}

-- ---- counts

count_kept : (n : ℕ) (t u : ℕ → Bool) → ((j : ℕ) → t j ≡ true → u j ≡ true) → count_below n t ≤ count_below n u
count_kept zero t u le = omega arith
count_kept (suc n) t u le = grind (arith, count_kept n t u le, le n)

count_more : (n a : ℕ) (t u : ℕ → Bool) → ((j : ℕ) → t j ≡ true → u j ≡ true) → a < n → t a ≡ false → u a ≡ true → count_below n t + 1 ≤ count_below n u
count_more zero a t u le lt off on = absurd (omega arith)
count_more (suc n) a t u le lt off on = grind (arith, count_more n a t u le, count_kept n t u le, le n)

count_two : (n a b : ℕ) (t u : ℕ → Bool) → ((j : ℕ) → t j ≡ true → u j ≡ true) → (a ≡ b → ⊥) → a < n → b < n
    → t a ≡ false → t b ≡ false → u a ≡ true → u b ≡ true → count_below n t + 2 ≤ count_below n u
count_two zero a b t u le apart a_in b_in ta tb ua ub = absurd (omega arith)
count_two (suc n) a b t u le apart a_in b_in ta tb ua ub = grind (arith, count_two n a b t u le apart, count_more n a t u le, count_more n b t u le, le n)

-- ---- married nodes

-- the number of married nodes
abbrev pub married_count : Configuration → ℕ
married_count c = count_below c.size (is_married c)

-- linked nodes are different
pub apart : (c : Configuration) (i j : ℕ) → IsLawful c → c.linked i j ≡ true → i ≡ j → ⊥
apart c i j l linked e = both_ways (c.linked i i) (l.no_loop i) (subst (λ x. c.linked i x ≡ true) (sym e) linked)

pub married_in : (c : Configuration) (i : ℕ) → IsLawful c → is_married c i ≡ true → i < c.size
married_in c i l e = let r = married-partner c i e in (l.in_range i r.0 (l.to_linked i r.0 r.1)).0

-- two linked nodes that pass only the weaker of two tests are two more that pass it
linked_two : (c : Configuration) (a b : ℕ) (t u : ℕ → Bool) → IsLawful c → c.linked a b ≡ true → ((j : ℕ) → t j ≡ true → u j ≡ true)
    → t a ≡ false → t b ≡ false → u a ≡ true → u b ≡ true → count_below c.size t + 2 ≤ count_below c.size u
linked_two c a b t u l linked le = let range = l.in_range a b linked in count_two c.size a b t u le (apart c a b l linked) range.0 range.1

-- if some node is married, at least two nodes are
pub pair_counts : (c : Configuration) (i : ℕ) → IsLawful c → is_married c i ≡ true → 2 ≤ married_count c
pair_counts c i l e =
    let r = married-partner c i e in
    let back = married-from c r.0 i l r.2 r.1 in
    omega (arith, linked_two c i r.0 (λ j. false) (is_married c) l (l.to_linked i r.0 r.1) (λ j off. absurd (false≢true off)) refl refl e back)

-- if two linked nodes aren't married, there are at least two more nodes than married ones
pub open_counts : (c : Configuration) (a b : ℕ) → IsLawful c → c.linked a b ≡ true → is_married c a ≡ false → is_married c b ≡ false → married_count c + 2 ≤ c.size
open_counts c a b l linked ea eb =
    omega (arith, linked_two c a b (is_married c) (λ j. true) l linked (λ j e. refl) ea eb refl refl, count_both c.size (λ j. true))

-- if some node isn't married, there are more nodes than married ones
pub single_counts : (c : Configuration) (i : ℕ) → i < c.size → is_married c i ≡ false → married_count c + 1 ≤ c.size
single_counts c i lt e = omega (arith, count_more c.size i (is_married c) (λ j. true) (λ j e. refl) lt e refl, count_both c.size (λ j. true))

-- there are at most as many married nodes as nodes
pub most : (c : Configuration) → married_count c ≤ c.size
most c = omega (arith, count_both c.size (is_married c))

-- ---- a step

-- in this step no node is newly married; such a step is called calm
abbrev pub Calm : Configuration → (ℕ → Option Rule) → Type 0
Calm c chosen = (i : ℕ) → is_married (step c chosen) i ≡ true → is_married c i ≡ true

-- a step doesn't lower the number of married nodes
pub married_kept : (c : Configuration) (chosen : ℕ → Option Rule) → IsLawful c → AllHold c chosen → married_count c ≤ married_count (step c chosen)
married_kept c chosen l h = count_kept c.size (is_married c) (is_married (step c chosen)) (step-married c chosen l h)

new_pair : (c : Configuration) (chosen : ℕ → Option Rule) → IsLawful c → AllHold c chosen → (x : ℕ) → is_married (step c chosen) x ≡ true
    → is_married c x ≡ false → married_count c + 2 ≤ married_count (step c chosen)
new_pair c chosen l h x new old =
    let lawful = step-lawful c chosen l h in
    let r = married-partner (step c chosen) x new in
    let alone : is_married c r.0 ≡ false = false_from_ne_true (is_married c r.0) (λ m.
    let z = married-partner c r.0 m in
    let kept = step_keeps c chosen h r.0 z.0 (z.1, z.2) in
    grind (arith, nat_tests, kept, z, r, married-from c x r.0 l)) in
    linked_two c x r.0 (is_married c) (is_married (step c chosen)) l (lawful.to_linked x r.0 r.1) (step-married c chosen l h) old alone new
    (married-from (step c chosen) r.0 x lawful r.2 r.1)

-- in a step the number of married nodes grows by at least two, or the step is calm
pub grows : (c : Configuration) (chosen : ℕ → Option Rule) → IsLawful c → AllHold c chosen → (married_count c + 2 ≤ married_count (step c chosen)) ⊎ Calm c chosen
grows c chosen l h = grind (arith, nat_tests, some_below-find, new_pair, married_in, step-lawful)
