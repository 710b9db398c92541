-- Sums over seats, by which the connections that were served or are being served are counted.
use Rattle.std.specs.{Prelude.◌≡◌, Prelude.◌⊎◌, Prelude.ℕ, Prelude.◌+◌, Prelude.List, Prelude.[], Prelude.◌∷◌, Prelude.◌++◌, List.sum_by}
use Rattle.mml_hosting.specs.{Seats.came_to, declared.seat.ServedSession.ServedSession, declared.seat.Seat.Seat, declared.port_serving.Busy.Busy}

-- the connections of a busy seat: those that came to it before, and the one that is being served
abbrev pub bound_for : {H K C R W U : Type 0} → (K → ServedSession R W) → Busy H K C R W U → List (R × W)
bound_for shows b = came_to shows b.handle.promise.0.value.record ++ b.handle.promise.1.value ∷ []

-- a sum over a seat: `g` of its number, and `h` of each connection that came to it
abbrev pub count_in : {H K C R W : Type 0} → (K → ServedSession R W) → (ℕ → ℕ) → (R × W → ℕ) → Seat H K C → ℕ
count_in shows g h s = g s.record.number + sum_by h (came_to shows s.record)

-- the sum of `count_in` over all free seats
abbrev pub count_free : {H K C R W : Type 0} → (K → ServedSession R W) → (ℕ → ℕ) → (R × W → ℕ) → List (Seat H K C) → ℕ
count_free shows g h free = sum_by (count_in shows g h) free

-- `count_in` for a busy seat, with the connection that is being served there
abbrev pub count_at : {H K C R W U : Type 0} → (K → ServedSession R W) → (ℕ → ℕ) → (R × W → ℕ) → Busy H K C R W U → ℕ
count_at shows g h b = g b.handle.promise.0.value.record.number + sum_by h (bound_for shows b)

-- the sum of `count_at` over all busy seats
abbrev pub count_busy : {H K C R W U : Type 0} → (K → ServedSession R W) → (ℕ → ℕ) → (R × W → ℕ) → List (Busy H K C R W U) → ℕ
count_busy shows g h busy = sum_by (count_at shows g h) busy

-- the sum over all seats of a port, the free and the busy ones
abbrev pub count_all : {H K C R W U : Type 0} → (K → ServedSession R W) → (ℕ → ℕ) → (R × W → ℕ) → List (Seat H K C) → List (Busy H K C R W U) → ℕ
count_all shows g h free busy = count_free shows g h free + count_busy shows g h busy

-- `count_all` stays the same for all `g` and `h`: the free and the busy seats together have the same numbers and
-- connections as before, in any order
abbrev pub KeepCounts : {H K C R W U : Type 0} → (K → ServedSession R W) → List (Seat H K C) → List (Busy H K C R W U) → List (Seat H K C)
    → List (Busy H K C R W U) → Type 0
KeepCounts {H} {K} {C} {R} {W} shows free busy free' busy' = (g : ℕ → ℕ) (h : R × W → ℕ) → count_all shows g h free' busy' ≡ count_all shows g h free busy

-- either the connection was added to those that were or are being served, and nothing else changed; or it was turned
-- away, as `IsAway` states
abbrev pub TakesIn : {H K C R W U : Type 0} → (K → ServedSession R W) → (R × W → Type 0) → R × W → List (Seat H K C) → List (Busy H K C R W U)
    → List (Seat H K C) → List (Busy H K C R W U) → Type 0
TakesIn {H} {K} {C} {R} {W} shows IsAway ends free busy free' busy' =
    ((g : ℕ → ℕ) (h : R × W → ℕ) → count_all shows g h free' busy' ≡ count_all shows g h free busy + h ends)
    ⊎ (KeepCounts shows free busy free' busy' × IsAway ends)
