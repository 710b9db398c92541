-- The items of a report's lists, as logical statements.
use Rattle.std.specs.Prelude.{◌≡◌, ℕ, ◌<◌, ◌⊎◌, true, List, [], ◌∷◌, All, Contains}
use Rattle.mml_rules.specs.{declared.rule.Kind.Kind, declared.rule.Rule.Rule, Configuration.Configuration, Rules.kind_of, Matching.IsPair, Meaning.IsMarried, Meaning.MayApply}
use Rattle.mml_stable.specs.{declared.open_link.OpenLink.OpenLink, Walk.certificate}

-- two nodes that point at each other, the lower one first
abbrev pub IsPairInOrder : Configuration → ℕ × ℕ → Type 0
IsPairInOrder c p = (p.0 < p.1) × IsPair c p.0 p.1

-- the node isn't in a pair
abbrev pub IsFreeNode : Configuration → ℕ → Type 0
IsFreeNode c i = (i < c.size) × ¬ IsMarried c i

-- a rule of this kind may be applied at the node
abbrev pub IsPrivilegedBy : Configuration → ℕ × Kind → Type 0
IsPrivilegedBy c p = (p.0 < c.size) × ((rule : Rule) × (kind_of rule ≡ p.1) × MayApply c p.0 rule)

-- a link between two free nodes, the lower one first, with its witness
pub record IsOpenLink (c : Configuration) (l : OpenLink) : Type 0 where
  pub linked : c.linked l.a l.b ≡ true
  pub lower : l.a < l.b
  pub free_a : ¬ IsMarried c l.a
  pub free_b : ¬ IsMarried c l.b
  pub witness : (l.node, l.kind) ≡ certificate c l.a l.b

-- Before holds between each item of the list and every later one
abbrev pub Rises : {X : Type 0} → (X → X → Type 0) → List X → Type 0
Rises Before [] = Unit {0}
Rises Before (x ∷ xs) = All (Before x) xs × Rises Before xs

-- the first end of k is lower than that of l; or both links have the same first end, and the second end of k is lower
abbrev pub IsLinkBefore : OpenLink → OpenLink → Type 0
IsLinkBefore k l = (k.a < l.a) ⊎ ((k.a ≡ l.a) × (k.b < l.b))

-- one of the two nodes is i
abbrev pub HasEnd : ℕ → ℕ × ℕ → Type 0
HasEnd i p = (p.0 ≡ i) ⊎ (p.1 ≡ i)

-- i is in a listed pair
abbrev pub IsMatched : List (ℕ × ℕ) → ℕ → Type 0
IsMatched pairs i = (p : ℕ × ℕ) × Contains pairs p × HasEnd i p

-- the listed pairs are linked, no node is in two of them, and each link has an end in one
pub record IsMaximalMatching (c : Configuration) (pairs : List (ℕ × ℕ)) : Type 0 where
  pub linked : (p : ℕ × ℕ) → Contains pairs p → c.linked p.0 p.1 ≡ true
  pub apart : (p q : ℕ × ℕ) (i : ℕ) → Contains pairs p → Contains pairs q → HasEnd i p → HasEnd i q → p ≡ q
  pub maximal : (a b : ℕ) → c.linked a b ≡ true → IsMatched pairs a ⊎ IsMatched pairs b
