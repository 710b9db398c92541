-- The report on a world.
use Rattle.std.specs.Prelude.{ℕ, ◌<◌, All, zero, suc, Bool, true, false, not, ◌&&◌, nat_lt, Option, None, Some, List, [], ◌∷◌, ◌++◌}
use Rattle.mml_ids.specs.Search.{some_below}
use Rattle.mml_rules.specs.{declared.rule.Kind.Kind, Configuration.Configuration, Configuration.holds, Rules.is_married, Rules.enabled_kind, Rules.is_privileged}
use Rattle.mml_board.specs.World.{World, configuration}
use Rattle.mml_stable.specs.{declared.open_link.OpenLink.OpenLink, declared.stability_report.Report.Report, Walk.certificate}

-- the lists for the numbers 0 to n - 1, one after another
abbrev pub each_below : {A : Type 0} → ℕ → (ℕ → List A) → List A
each_below zero list = []
each_below (suc n) list = each_below n list ++ list n

-- a list of only x if the test is true, and otherwise an empty list
abbrev pub listed_if : {A : Type 0} → Bool → A → List A
listed_if true x = x ∷ []
listed_if false x = []

-- i and the node at which i points, if that node points back at i and is the greater of the two
abbrev pub pair_at : Configuration → ℕ → Option ℕ → List (ℕ × ℕ)
pair_at c i None = []
pair_at c i (Some j) = listed_if (nat_lt i j && holds (c.p j) i) (i, j)

-- the nodes that point at each other, the lower one first
abbrev pub pairs : Configuration → List (ℕ × ℕ)
pairs c = each_below c.size (λ i. pair_at c i (c.p i))

-- i is in no pair
abbrev pub is_free : Configuration → ℕ → Bool
is_free c i = not (is_married c i)

-- the nodes that are in no pair
abbrev pub free_nodes : Configuration → List ℕ
free_nodes c = each_below c.size (λ i. listed_if (is_free c i) i)

-- i with the rule that is enabled there, if one is
abbrev pub privileged_at : ℕ → Option Kind → List (ℕ × Kind)
privileged_at i None = []
privileged_at i (Some kind) = (i, kind) ∷ []

-- the privileged nodes, each with the rule that is enabled there
abbrev pub privileged_nodes : Configuration → List (ℕ × Kind)
privileged_nodes c = each_below c.size (λ i. privileged_at i (enabled_kind c i))

-- a and b are linked, b is greater than a, and both are free
abbrev pub is_open : Configuration → ℕ → ℕ → Bool
is_open c a b = c.linked a b && (nat_lt a b && (is_free c a && is_free c b))

-- a link between two free nodes, with its witness
abbrev pub open_link : Configuration → ℕ → ℕ → OpenLink
open_link c a b = record { a = a; b = b; node = (certificate c a b).0; kind = (certificate c a b).1 }

-- the open links whose lower end is a
abbrev pub open_links_at : Configuration → ℕ → List OpenLink
open_links_at c a = each_below c.size (λ b. listed_if (is_open c a b) (open_link c a b))

-- the open links of all nodes
abbrev pub open_links : Configuration → List OpenLink
open_links c = each_below c.size (open_links_at c)

-- no node is privileged
abbrev pub is_stable : Configuration → Bool
is_stable c = not (some_below c.size (is_privileged c))

-- the report on a world
abbrev pub report_of : World → Report
report_of w = record {
  at = w.number;
  pairs = pairs (configuration w);
  free = free_nodes (configuration w);
  privileged = privileged_nodes (configuration w);
  open_links = open_links (configuration w);
  stable = is_stable (configuration w);
}

-- both nodes are below n
abbrev pub IsPairOf : ℕ → ℕ × ℕ → Type 0
IsPairOf n p = (p.0 < n) × (p.1 < n)

-- both ends and the witness are below n
abbrev pub IsOpenLinkOf : ℕ → OpenLink → Type 0
IsOpenLinkOf n l = (l.a < n) × (l.b < n) × (l.node < n)

-- each node that the report names is below n
pub record NamesNodes (n : ℕ) (r : Report) : Type 0 where
  pub pairs : All (IsPairOf n) r.pairs
  pub free : All (λ i. i < n) r.free
  pub privileged : All (λ p. p.0 < n) r.privileged
  pub links : All (IsOpenLinkOf n) r.open_links
