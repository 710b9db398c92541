-- Texts that spell numbers.
use Rattle.std.specs.Prelude.{◌≡◌, ◌<◌, ◌≤◌, ℕ, List, Option, decimal, MatchOption}

-- the text is n in decimal, and n is from 1 to `most`
abbrev pub Spells : ℕ → List ℕ → ℕ → Type 0
Spells most text n = (0 < n) × (n ≤ most) × (text ≡ decimal n)

-- the result is the number from 1 to `most` that the text spells; the result is `None` only if the text spells no such
-- number
abbrev pub Reads : {N : Type 0} → (N → ℕ) → ℕ → List ℕ → Option N → Type 0
Reads value most text r = MatchOption r ((n : ℕ) → Spells most text n → ⊥) (λ x. Spells most text (value x))
