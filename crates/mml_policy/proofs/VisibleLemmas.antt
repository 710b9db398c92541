-- The test whether a node is visible agrees with the logical statement.
use Rattle.std.proofs.Common.{◌≡◌, ℕ, ◌<◌, Bool, true, false, ◌&&◌, ◌||◌, eqb, ap, sym, ◌∙◌, arith, Option, None, Some}
use Rattle.std.specs.{Prelude.◌↔◌, Prelude.IfSome, Prelude.IfNone, Prelude.is_some, Ordering.nat_cmp, Cmp.nat_cmp_total, FinSet.FinSet}
use Rattle.std.proofs.lemmas.Bool.{eq-eqb, eqb-true, and_parts, and_from, or_cases, or_left, or_right}
use Rattle.mml_ids.specs.inside.WordsLemmas.{has_empty, has_insert}
use Rattle.mml_rules.specs.Configuration.{Configuration, IsLawful}
use Rattle.mml_ids.proofs.SearchLemmas.{some_below-find, some_below-at}
use Rattle.mml_lab.specs.{declared.who.Who.Who, Rosters.RosterValue, Rosters.owns}
use Rattle.mml_policy.specs.Visible.{is_teacher, owns_neighbour, is_visible, IsVisible}
use Rattle.std.specs.FinSet as sets
use Rattle.mml_lab.specs.declared.who.Who.TheVariants as who

-- `owns_neighbour` is true exactly if x owns a node that is linked to i
pub neighbour_means : (r : RosterValue) (c : Configuration) (x : Who) (i : ℕ)
    → (owns_neighbour r c x i ≡ true) ↔ ((j : ℕ) × (j < c.size) × (c.linked i j ≡ true) × (owns r x j ≡ true))
unfolding owns_neighbour
neighbour_means r c x i = (
  grind (arith, some_below-find, and_parts),
  λ h. some_below-at c.size h.0 (λ j. c.linked i j && owns r x j) h.1 (and_from (c.linked i h.0) (owns r x h.0) h.2 h.3),
)

-- if `is_teacher` is true, x is the teacher
pub teacher_is : (x : Who) → is_teacher x ≡ true → x ≡ who.Teacher
teacher_is x h = grind arith

-- `is_visible` is true exactly if the node is visible to x
pub visible_means : (r : RosterValue) (c : Configuration) (x : Who) (i : ℕ) → IsLawful c → (is_visible r c x i ≡ true) ↔ IsVisible r c x i
visible_means r c x i l = (grind (arith, neighbour_means), grind (arith, neighbour_means, l.in_range))

-- j is i or linked to i, and x owns j
abbrev pub owned_around : RosterValue → Configuration → Who → ℕ → ℕ → Bool
owned_around r c x i j = (eqb j i || c.linked i j) && owns r x j

-- the nodes that are in `around` (i and its neighbours) and in `owned` (x's nodes) are those of `owned_around`
pub has_around : (r : RosterValue) (c : Configuration) (x : Who) (i : ℕ) (near around owned both : FinSet nat_cmp)
    → ((j : ℕ) → sets.contains near j ≡ c.linked i j) → around ≡ sets.insert near i → ((j : ℕ) → sets.contains owned j ≡ owns r x j)
    → both ≡ sets.intersection around owned → (j : ℕ) → sets.contains both j ≡ owned_around r c x i j
has_around r c x i near around owned both linked is_around mine is_both j =
    ap (λ s. sets.contains s j) is_both ∙ sets.contains-intersection nat_cmp_total around owned j
    ∙ (λ t. sets.contains (is_around t) j && mine j t) ∙ ap (λ b. b && owns r x j) (has_insert near i j ∙ ap (λ b. eqb j i || b) (linked j))

-- if x owns neither i nor a node linked to i, both `owns` and `owns_neighbour` are false for i
none_around : (r : RosterValue) (c : Configuration) (x : Who) (i : ℕ) → ((j : ℕ) → owned_around r c x i j ≡ false)
    → false ≡ (owns r x i || owns_neighbour r c x i)
none_around r c x i none = grind (arith, neighbour_means, or_right, or_left, eq-eqb, none i)

-- a search for a node of x among i and its neighbours finds one exactly if x owns i or a neighbour of i
pub around_is_some : (r : RosterValue) (c : Configuration) (x : Who) (i : ℕ) (both : FinSet nat_cmp) (found : Option ℕ) → IsLawful c
    → ((j : ℕ) → sets.contains both j ≡ owned_around r c x i j) → IfSome found (λ j. sets.contains both j ≡ true) → IfNone found (both ≡ sets.empty)
    → is_some found ≡ (owns r x i || owns_neighbour r c x i)
around_is_some r c x i both None lawful has member none = none_around r c x i (λ j. sym (has j) ∙ ap (λ s. sets.contains s j) none ∙ has_empty j)
around_is_some r c x i both (Some j) lawful has member none = grind (arith, and_parts, or_cases, or_left, eqb-true, or_right, neighbour_means, and_from, sym (has j) ∙ member)
