-- Lines of bytes.
use Rattle.std.specs.Prelude.{◌≢◌, ℕ, List, [], ◌∷◌, ◌++◌, slice_index, EachIndex}

-- no byte is a newline
abbrev pub IsUnbroken : List ℕ → Type 0
IsUnbroken bytes = EachIndex bytes (λ k. slice_index bytes k ≢ 10)

-- a line, with its newline
abbrev pub ended : List ℕ → List ℕ
ended line = line ++ 10 ∷ []
