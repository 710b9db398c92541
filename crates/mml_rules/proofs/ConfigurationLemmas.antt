-- A test whether a register p points at a given node.
use Rattle.std.proofs.Common.{◌≡◌, ℕ, true, Option, Some, ap, ◌∙◌, refl, arith}
use Rattle.std.proofs.lemmas.Bool.{eqb-true, eq-eqb, false≢true}
use Rattle.mml_rules.specs.Configuration.{holds}

-- if `holds` is true, the register points at j
pub holds-true : (o : Option ℕ) (j : ℕ) → holds o j ≡ true → o ≡ Some j
holds-true o j h = grind (arith, false≢true, eqb-true)

pub holds-some : (j : ℕ) → holds (Some j) j ≡ true
holds-some j = eq-eqb j j refl

-- if the register points at j, `holds` is true
pub holds-from : (o : Option ℕ) (j : ℕ) → o ≡ Some j → holds o j ≡ true
holds-from o j h = ap (λ x. holds x j) h ∙ holds-some j
