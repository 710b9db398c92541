-- Connections that are turned away.
use Rattle.std.specs.{Prelude.ℕ, Prelude.List, Prelude.Option, Prelude.Result, Prelude.OnOk, Prelude.IfErr, Prelude.take, Prelude.codes, Io.KnownBytes.Appends}
use Rattle.mml_lines.specs.declared.write_fault.WriteFault.{WriteFault}

-- the line of the refusal `busy`: no seat is free
unfoldable pub busy_line : List ℕ
busy_line = codes "{\"refuse\":\"busy\"}\n"

-- the line, or only a beginning of it if a write failed, was written to the connection's writing end, and then the
-- connection was closed
pub record TurnsAway {R W : Type 0} (contents : W → Option (List ℕ)) (IsHungUp : W → Type 0) (line : List ℕ) (ends : R × W)
    (told : Result (Unit {0}) WriteFault) : Type 0 where
  pub writer : W
  pub whole : OnOk told (Appends (contents ends.1) (contents writer) line)
  pub cut : IfErr told (λ fault. Appends (contents ends.1) (contents writer) (take fault.written line))
  pub hung_up : IsHungUp writer

-- the connection was turned away since no seat was free
abbrev pub IsTurnedAway : {R W : Type 0} → (W → Option (List ℕ)) → (W → Type 0) → R × W → Type 0
IsTurnedAway contents IsHungUp ends = (told : Result (Unit {0}) WriteFault) × TurnsAway contents IsHungUp busy_line ends told
