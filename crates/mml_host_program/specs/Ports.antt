-- Texts that name ports.
use Rattle.std.specs.Prelude.{◌≡◌, ◌≤◌, ◌^◌, ◌-◌, ℕ, List, decimal}

-- the text is this number in decimal, which is a port or 0
abbrev pub Names : List ℕ → ℕ → Type 0
Names text port = (port ≤ 2 ^ 16 - 1) × (text ≡ decimal port)

-- the text is neither a port in decimal nor 0
abbrev pub NamesNone : List ℕ → Type 0
NamesNone text = (port : ℕ) → Names text port → ⊥
