-- The results of views, which are requests to be shown something. A ruling is what the policy decides about a command.
-- A window is one session's view of the published events and board.
use Rattle.std.specs.Prelude.{◌≡◌, ℕ, Result, Ok, Err}
use Rattle.mml_lab.specs.{declared.who.Who.Who, Labs.LabValue}
use Rattle.mml_policy.specs.declared.{command.Command.Command, ruling.Ruling.Ruling, ruling.Ruling.TheVariants.Denied}
use Rattle.mml_window.specs.{declared.sight.SightFault.SightFault, declared.sight.Closed.Closed, Rulings.ruling_at, Windows.WindowValue, Windows.SeesOn}
use Rattle.mml_board.specs.Lists.{world_in}
use Rattle.mml_window.specs.declared.sight.SightFault.TheVariants as fault

-- n is the number of the configuration after the events that the window has then seen; a closed window stays as it was
abbrev pub TellsNumber : LabValue → WindowValue → Result ℕ Closed → WindowValue → Type 0
TellsNumber lab old (Ok n) new = (n ≡ (world_in lab new.seen).number) × SeesOn lab old new
TellsNumber lab old (Err closed) new = new ≡ old

-- the result is what the ruling shows, or its denial; `Memory` means that something would be shown
abbrev pub Shows : {A : Type 0} → (A → Ruling) → Ruling → Result A SightFault → Type 0
Shows shown r (Ok x) = r ≡ shown x
Shows shown r (Err (fault.Denied d)) = r ≡ Denied d
Shows {A} shown r (Err fault.Memory) = (x : A) × (r ≡ shown x)
Shows shown r (Err fault.Closed) = ⊥

-- the result of a view is that of the ruling after the events that the window has then seen; a closed window stays as
-- it was
abbrev pub AnswersView : {A : Type 0} → (A → Ruling) → LabValue → WindowValue → Who → Command → Result A SightFault → WindowValue → Type 0
AnswersView shown lab old who command (Ok x) new = Shows shown (ruling_at lab (world_in lab new.seen) who command) (Ok x) × SeesOn lab old new
AnswersView shown lab old who command (Err (fault.Denied d)) new = (ruling_at lab (world_in lab new.seen) who command ≡ Denied d) × SeesOn lab old new
AnswersView shown lab old who command (Err fault.Memory) new = Shows shown (ruling_at lab (world_in lab new.seen) who command) (Err fault.Memory) × SeesOn lab old new
AnswersView shown lab old who command (Err fault.Closed) new = new ≡ old
