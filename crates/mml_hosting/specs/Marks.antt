-- Marks, by which the threads of seats show that they have ended.
use Rattle.std.specs.Prelude.{◌≡◌, ℕ, Bool, true, false, List, All, MatchOption, IfSome, slice_get, take}
use Rattle.mml_hosting.specs.declared.port_serving.Busy.{Busy}

-- `answer` is what the mark with this number returned when it was read; a missing mark counts as not set
abbrev pub Says : {M : Type 0} → (M → Bool → Type 0) → List M → ℕ → Bool → Type 0
Says Answers marks number answer = MatchOption (slice_get marks number) (answer ≡ false) (λ mark. Answers mark answer)

-- none of the busy seats is marked
abbrev pub NoneMarked : {H K C R W U M : Type 0} → (M → Bool → Type 0) → List M → List (Busy H K C R W U) → Type 0
NoneMarked Answers marks busy = All (λ b. Says Answers marks b.number false) busy

-- the busy seat at the index is the first that is marked
abbrev pub IsFirstMarked : {H K C R W U M : Type 0} → (M → Bool → Type 0) → List M → List (Busy H K C R W U) → ℕ → Type 0
IsFirstMarked Answers marks busy index = IfSome (slice_get busy index) (λ b. Says Answers marks b.number true) × NoneMarked Answers marks (take index busy)
