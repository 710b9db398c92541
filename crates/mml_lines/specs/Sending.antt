-- Lines that are written together: those that were written, and those that are still held in a buffer.
use Rattle.std.specs.Prelude.{◌≡◌, ℕ, ◌-◌, ◌≤◌, nat_lt, List, [], ◌∷◌, ◌++◌, length, take, map, Option, if◌then◌else◌}
use Rattle.std.specs.{List.concat, Io.KnownBytes.Appends}
use Rattle.mml_lines.specs.declared.write_fault.WriteFault.{WriteFault}

-- if the first `out` bytes of lines with these lengths are written, the number of written bytes in the first line that
-- isn't written whole
abbrev pub part_in : List ℕ → ℕ → ℕ
part_in [] out = out
part_in (n ∷ ns) out = if nat_lt out n then out else part_in ns (out - n)

-- some of the lines, from the first on, were written, and the others are held
abbrev pub Sends : Option (List ℕ) → Option (List ℕ) → List (List ℕ) → List (List ℕ) → Type 0
Sends wrote wrote' lines held = (sent : List (List ℕ)) × (lines ≡ sent ++ held) × Appends wrote wrote' (concat sent)

-- some bytes of the lines, from the first on, were written; the error counts those of the first line that isn't wholly
-- written
abbrev pub BreaksOff : WriteFault → Option (List ℕ) → Option (List ℕ) → List (List ℕ) → Type 0
BreaksOff fault wrote wrote' lines = (out : ℕ) × (out ≤ length (concat lines)) × (fault.written ≡ part_in (map length lines) out)
    × Appends wrote wrote' (take out (concat lines))
