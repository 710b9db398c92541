-- The shares of a house's three ledgers that windows have. A ledger is a count that only contracts can read: a total,
-- and shares whose amounts add up to it. A window is one session's view of the published events and board.
use Rattle.std.specs.Prelude.{◌≡◌, ℕ, List, length, sum_by}
use Rattle.mml_window.specs.{Windows.WindowValue, Tallies.told_of}

-- the amounts of the window's shares: how many of its acts were refused because the journal was halted, the sum over
-- these refusals, and how many events it was granted
abbrev pub IsShareOf : WindowValue → ℕ → ℕ → ℕ → Type 0
IsShareOf w halts spares grants = (halts ≡ w.halts) × (spares ≡ w.spare) × (grants ≡ length w.places)

-- the shares of all windows together: their amounts, and the parts of the first two
pub record AreJoined (ws : List WindowValue) (halts halt_parts spares spare_parts grants : ℕ) : Type 0 where
  pub halts_are : halts ≡ sum_by (λ w. w.halts) ws
  pub spares_are : spares ≡ sum_by (λ w. w.spare) ws
  pub grants_are : grants ≡ length (told_of ws)
  pub one_each : halt_parts ≡ length ws
  pub spare_each : spare_parts ≡ length ws
