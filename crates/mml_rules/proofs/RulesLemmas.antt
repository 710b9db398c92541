-- What follows from the definitions of the rules.
use Rattle.std.proofs.Common.{◌≡◌, ℕ, ◌<◌, true, false, ◌&&◌, nat_lt, Option, None, Some, is_some, is_none, ap, arith}
use Rattle.std.proofs.lemmas.Bool.{and_parts, and_from, false_from_ne_true, both_ways, false≢true}
use Rattle.mml_rules.specs.Configuration.{Configuration, IsLawful, holds}
use Rattle.mml_rules.specs.Rules.{is_married, has_suitor, is_candidate, greatest_candidate, points_in_vain}
use Rattle.mml_ids.proofs.SearchLemmas.{some_below-find, some_below-at, greatest_below-some, greatest_below-none}
use Rattle.mml_rules.proofs.ConfigurationLemmas.{holds-true, holds-from}

-- a married node points at some node that points back
pub married-partner : (c : Configuration) (i : ℕ) → is_married c i ≡ true → (j : ℕ) × (c.p i ≡ Some j) × (c.p j ≡ Some i)
unfolding is_married
married-partner c i h = grind (arith, some_below-find, and_parts, holds-true)

-- if i and j point at each other, i is married
pub married-from : (c : Configuration) (i j : ℕ) → IsLawful c → c.p i ≡ Some j → c.p j ≡ Some i → is_married c i ≡ true
unfolding is_married
married-from c i j l a b =
    let linked : c.linked i j ≡ true = l.to_linked i j a in
    some_below-at c.size j (λ j. c.linked i j && (holds (c.p i) j && holds (c.p j) i)) (l.in_range i j linked).1
    (and_from _ _ linked (and_from _ _ (holds-from (c.p i) j a) (holds-from (c.p j) i b)))

-- a node whose pointer is null is not married
pub married-null : (c : Configuration) (i : ℕ) → c.p i ≡ None → is_married c i ≡ false
married-null c i h = false_from_ne_true (is_married c i) (λ m. let r = married-partner c i m in cc)

-- a node that points at j is married exactly if j points back
pub married-at : (c : Configuration) (i j : ℕ) → IsLawful c → c.p i ≡ Some j → is_married c i ≡ holds (c.p j) i
married-at c i j l a = grind (arith, married-from, holds-true, false_from_ne_true, married-partner, both_ways, holds-from)

-- if a node points at j, then j is a node of the network
pub pointee_in : (c : Configuration) (i j : ℕ) → IsLawful c → c.p i ≡ Some j → j < c.size
pointee_in c i j l h = (l.in_range i j (l.to_linked i j h)).1

-- if `is_none` is true, the register is null
pub none-null : (o : Option ℕ) → is_none o ≡ true → o ≡ None
none-null o h = grind (arith, false≢true)

-- if the register is null, `is_none` is true
pub null-none : (o : Option ℕ) → o ≡ None → is_none o ≡ true
null-none o h = ap is_none h

-- if `is_some` is false, `is_none` is true
pub some-null : (o : Option ℕ) → is_some o ≡ false → is_none o ≡ true
some-null o h = grind arith

-- if `is_none` is true, `is_some` is false
pub null-some : (o : Option ℕ) → is_none o ≡ true → is_some o ≡ false
null-some o h = grind (arith, false≢true)

-- if `points_in_vain` is true, the node points at some node
pub vain-some : (c : Configuration) (i : ℕ) → points_in_vain c i ≡ true → is_some (c.p i) ≡ true
vain-some c i h = grind (arith, nat_lt, false≢true)

-- if k is linked to i and points at i, then i has a suitor
pub suitor-from : (c : Configuration) (i k : ℕ) → IsLawful c → c.linked i k ≡ true → c.p k ≡ Some i → has_suitor c i ≡ true
unfolding has_suitor
suitor-from c i k l linked h = some_below-at c.size k (λ k. c.linked i k && holds (c.p k) i) (l.in_range i k linked).1 (and_from _ _ linked (holds-from (c.p k) i h))

-- if i has a suitor, some node that is linked to i points at i
pub suitor-find : (c : Configuration) (i : ℕ) → has_suitor c i ≡ true → (k : ℕ) × (c.linked i k ≡ true) × (c.p k ≡ Some i)
unfolding has_suitor
suitor-find c i h = grind (arith, some_below-find, and_parts, holds-true)

-- the greatest candidate is a candidate
pub greatest-is : (c : Configuration) (i j : ℕ) → greatest_candidate c i ≡ Some j → is_candidate c i j ≡ true
unfolding greatest_candidate
greatest-is c i j h = (greatest_below-some c.size j (is_candidate c i) h).1

-- if there is no greatest candidate, no node is a candidate
pub greatest-none : (c : Configuration) (i j : ℕ) → greatest_candidate c i ≡ None → j < c.size → is_candidate c i j ≡ false
unfolding greatest_candidate
greatest-none c i j h l = greatest_below-none c.size j (is_candidate c i) h l
