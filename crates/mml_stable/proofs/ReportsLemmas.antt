-- The lists of a report, as the loops over sets of nodes build them.
use Rattle.std.proofs.Common.{◌≡◌, ℕ, zero, suc, ◌+◌, ◌<◌, Bool, true, false, cond, not, eqb, [], ◌∷◌, ◌++◌, length, map, sym, refl, ap, ◌∙◌, arith, add-one, Option, length-append}
use Rattle.std.{proofs.lemmas.List.append-nil, proofs.lemmas.Bool.and_parts, proofs.lemmas.Bool.Decides.nat_tests, specs.Prelude.is_some, specs.Ordering.nat_cmp, specs.FinSet.FinSet}
use Rattle.mml_ids.specs.{Search.some_below, Sets.those_below, inside.WordsLemmas.has-those_below, inside.WordsLemmas.has_remove}
use Rattle.mml_ids.proofs.SetsLemmas.{ranks_in, passing, passing_more}
use Rattle.mml_rules.specs.{declared.rule.Kind.Kind, Configuration.Configuration, Configuration.IsLawful}
use Rattle.mml_stable.specs.{inside.Rest.IsFreeFrom, Reports.each_below, Reports.listed_if, Reports.privileged_at, Reports.is_free, Reports.is_open, Reports.open_link, Reports.open_links_at}
use Rattle.std.specs.FinSet as sets

-- `passing` and `each_below` list the same values: those of f at the numbers below n that pass
listed_below : {A : Type 0} (t : ℕ → Bool) (f : ℕ → A) (n : ℕ) → passing t f n ≡ each_below n (λ b. listed_if (t b) (f b))
listed_below t f zero = refl
listed_below t f (suc n) = ap (passing t f) (sym (add-one n)) ∙ passing_more t f n ∙ (λ i. listed_below t f n i ++ one (t n) i)
  where
    one : (b : Bool) → map f (cond b (n ∷ []) []) ≡ listed_if b (f n)
    one true = refl
    one false = refl

-- if `ends` has the greater ends of the open links of a, the links from a to the nodes of `ends` are these open links
pub links_of_ends : (c : Configuration) (a : ℕ) (ends : FinSet nat_cmp) → ((b : ℕ) → sets.contains ends b ≡ is_open c a b)
    → map (open_link c a) (ranks_in c.size ends) ≡ open_links_at c a
links_of_ends c a ends same = grind (arith, listed_below)

-- both ends of an open link are nodes
pub both_ends : (c : Configuration) (a b : ℕ) → IsLawful c → is_open c a b ≡ true → (a < c.size) × (b < c.size)
both_ends c a b lawful open_b = lawful.in_range a b (and_parts (c.linked a b) _ open_b).0

-- the list of privileged nodes is empty exactly if no rule is enabled at any node
pub none_listed : (n : ℕ) (kind : ℕ → Option Kind) → eqb (length (each_below n (λ i. privileged_at i (kind i)))) 0 ≡ not (some_below n (λ i. is_some (kind i)))
none_listed zero kind = refl
none_listed (suc n) kind = grind (arith, nat_tests, append-nil, length-append, (none_listed n kind))

-- the set of all free nodes has the free nodes from node 0 on
pub all_left : (c : Configuration) (free : FinSet nat_cmp) → free ≡ those_below c.size (is_free c) → IsFreeFrom c 0 free
all_left c free e b = grind (arith, nat_tests, has-those_below c.size (is_free c) b)

-- if node a is removed from the set of the free nodes from a on, this set has the free nodes from a + 1 on
pub one_past : (c : Configuration) (a : ℕ) (rest left : FinSet nat_cmp) → IsFreeFrom c a rest → left ≡ sets.remove rest a → IsFreeFrom c (a + 1) left
one_past c a rest left from e b = grind (arith, nat_tests, has_remove, from b)
