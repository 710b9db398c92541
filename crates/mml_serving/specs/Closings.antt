-- The first and the last line that a server prints.
use Rattle.std.specs.Prelude.{◌≡◌, ◌<◌, ℕ, Bool, true, false, List, [], ◌∷◌, length, take, codes, decimal, Option}
use Rattle.std.specs.{List.concat, Io.KnownBytes.Appends}
use Rattle.mml_serving.specs.declared.serving.ServeFault.{ServeFault}
use Rattle.mml_serving.specs.declared.serving.ServeFault.TheVariants as fault

-- a server's first line, which names its port
abbrev pub listening_line : ℕ → List ℕ
listening_line port = concat (codes "listening on port " ∷ decimal port ∷ codes "\n" ∷ [])

-- a server's last line: the number of events, and the number of the configuration after them
abbrev pub done_line : ℕ → ℕ → List ℕ
done_line events number = concat (codes "done: " ∷ decimal events ∷ codes " events, configuration " ∷ decimal number ∷ codes "\n" ∷ [])

-- the text wasn't written whole: nothing was written because memory ran out, or only a beginning because the writer
-- failed
abbrev pub IsCutShort : Option (List ℕ) → Option (List ℕ) → List ℕ → ServeFault → Type 0
IsCutShort wrote wrote' text fault.Memory = Appends wrote wrote' []
IsCutShort wrote wrote' text fault.Write = (n : ℕ) × (n < length text) × Appends wrote wrote' (take n text)
IsCutShort wrote wrote' text _ = ⊥

-- the last line wasn't written whole; if the journal is halted, nothing of it was written
abbrev pub LacksLastLine : Bool → Option (List ℕ) → Option (List ℕ) → List ℕ → ServeFault → Type 0
LacksLastLine halted wrote wrote' line fault.Halted = (halted ≡ true) × Appends wrote wrote' []
LacksLastLine halted wrote wrote' line fault.Memory = (halted ≡ false) × IsCutShort wrote wrote' line fault.Memory
LacksLastLine halted wrote wrote' line fault.Write = (halted ≡ false) × IsCutShort wrote wrote' line fault.Write
LacksLastLine halted wrote wrote' line _ = ⊥
