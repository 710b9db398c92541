-- The free nodes that are left while the open links are listed.
use Rattle.std.specs.{Prelude.◌≡◌, Prelude.ℕ, Prelude.not, Prelude.◌&&◌, Prelude.nat_lt, Ordering.nat_cmp, FinSet.FinSet}
use Rattle.mml_rules.specs.Configuration.{Configuration}
use Rattle.mml_stable.specs.Reports.{is_free}
use Rattle.std.specs.FinSet as set

-- the set has the free nodes from a on
abbrev pub IsFreeFrom : Configuration → ℕ → FinSet nat_cmp → Type 0
IsFreeFrom c a rest = (b : ℕ) → set.contains rest b ≡ (not (nat_lt b a) && (nat_lt b c.size && is_free c b))
