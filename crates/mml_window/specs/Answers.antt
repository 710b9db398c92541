-- The answer to an act, a request for an event. A world is a network with its registers, its chosen moves, the number
-- of its configuration, and the number of events so far. The place of an event is its number in the list of events,
-- from 1. A window is one session's view of the published events and board. A list of events is legal if the rules
-- allow each event after the earlier ones.
use Rattle.std.specs.Prelude.{◌≡◌, ◌⊎◌, ℕ, ◌+◌, ◌-◌, true, false, List, [], ◌∷◌, ◌++◌, length, Option, None, Some}
use mathlib.Core.List.{IsPrefix}
use Rattle.mml_lab.specs.{declared.who.Who.Who, Labs.LabValue}
use Rattle.mml_board.specs.{declared.event.Event.Event, declared.done.Done.Done, World.World, Lists.is_legal_in, Lists.world_in}
use Rattle.mml_policy.specs.declared.{command.Command.Command, refusal.Refusal.Refusal, refusal.Refusal.TheVariants.Full, refusal.Refusal.TheVariants.Journal, refusal.Refusal.TheVariants.Memory}
use Rattle.mml_policy.specs.About.{IsDone}
use Rattle.mml_window.specs.declared.answer.Answer.{Answer, TheVariants.Granted, TheVariants.Denied, TheVariants.Refused}
use Rattle.mml_window.specs.{Rulings.ruling_at, Windows.WindowValue, Windows.window_with, Books.BookValue, Books.IsBook, Books.Grows, Books.HaltsBook}
use Rattle.mml_policy.specs.declared.ruling.Ruling.TheVariants as ruling

-- the act would be granted, as some event, in the world after the list
abbrev pub Grants : LabValue → List Event → Who → Command → Type 0
Grants lab l who command = (e : Event) × (done : Done) × (ruling_at lab (world_in lab l) who command ≡ ruling.Granted e done)

-- after the list the act is granted as the event e, with the effect `done` and the next place; `number` is that of the
-- configuration after the event
pub record Takes (lab : LabValue) (l : List Event) (who : Who) (command : Command) (e : Event) (place number : ℕ) (done : Done) : Type 0 where
  pub ruled : ruling_at lab (world_in lab l) who command ≡ ruling.Granted e done
  pub next : place ≡ length l + 1
  pub placed : place ≡ (world_in lab (l ++ e ∷ [])).place
  pub numbered : number ≡ (world_in lab (l ++ e ∷ [])).number

-- the effect of a decision on the book, by the answer. A denial leaves the book as it was, and so does a refusal
-- because of the limit or of memory. If the journal fails, the book is halted afterwards. A grant adds the event
abbrev pub Decides : {S : Type 0} → LabValue → (S → ℕ) → BookValue S → Who → Command → Answer → BookValue S → Type 0
Decides lab failures old who command (Denied d) new = (ruling_at lab (world_in lab old.events) who command ≡ ruling.Denied d) × (new ≡ old)
Decides lab failures old who command (Refused Full) new =
    (ruling_at lab (world_in lab old.events) who command ≡ ruling.Full) × (length old.events ≡ lab.events) × (new ≡ old)
Decides lab failures old who command (Refused Journal) new =
    Grants lab old.events who command × (((old.halted ≡ true) × (new ≡ old)) ⊎ HaltsBook failures old new)
Decides lab failures old who command (Refused Memory) new = Grants lab old.events who command × (old.halted ≡ false) × (new ≡ old)
Decides lab failures old who command (Granted place number done) new =
    (e : Event) × Takes lab old.events who command e place number done × Grows failures old new e

-- the effect of a legal event on the book, if there is room and the journal isn't halted. If memory runs out, the book
-- stays as it was. If the journal fails, the book is halted. Otherwise the event is added
abbrev pub Lets : {S : Type 0} → LabValue → (S → ℕ) → BookValue S → Event → Done → Answer → BookValue S → Type 0
Lets lab failures old e done (Denied d) new = ⊥
Lets lab failures old e done (Refused Full) new = ⊥
Lets lab failures old e done (Refused Journal) new = HaltsBook failures old new
Lets lab failures old e done (Refused Memory) new = new ≡ old
Lets lab failures old e done (Granted place number d) new =
    (d ≡ done) × (place ≡ length old.events + 1) × (number ≡ (world_in lab new.events).number) × Grows failures old new e

-- the window after an answer that isn't a grant: it has seen the list, and keeps this reason
abbrev pub seeing : List Event → WindowValue → Option Refusal → WindowValue
seeing l old why = window_with l old.places why old.halts old.spare

-- the window after the refusal because the journal is halted: it has seen the list, after which the lab allows `spare`
-- more events
abbrev pub halting : List Event → WindowValue → ℕ → WindowValue
halting l old spare = window_with l old.places (Some Journal) (old.halts + 1) (old.spare + spare)

-- the answer is right after the list l, for the window `old`. `new` is the window after the answer; it has the reason
-- if the act was refused. If an act was refused because the journal was halted, nothing is granted any more
abbrev pub Says : LabValue → List Event → WindowValue → Who → Command → Answer → WindowValue → Type 0
Says lab l old who command (Denied d) new = (ruling_at lab (world_in lab l) who command ≡ ruling.Denied d) × (new ≡ seeing l old None)
Says lab l old who command (Refused Full) new =
    (ruling_at lab (world_in lab l) who command ≡ ruling.Full) × (length l ≡ lab.events) × (new ≡ seeing l old (Some Full))
Says lab l old who command (Refused Journal) new = Grants lab l who command × (new ≡ halting l old (lab.events - length l))
Says lab l old who command (Refused Memory) new = Grants lab l who command × (new ≡ seeing l old (Some Memory))
Says lab l old who command (Granted place number done) new =
    (e : Event) × Takes lab l who command e place number done
    × (new ≡ window_with (l ++ e ∷ []) (old.places ++ place ∷ []) None old.halts old.spare) × (old.halts ≡ 0)

-- the answer is decided after a legal list that begins with all events that the window had seen
abbrev pub Answers : LabValue → WindowValue → Who → Command → Answer → WindowValue → Type 0
Answers lab old who command answer new = (l : List Event) × IsPrefix old.seen l × (is_legal_in lab l ≡ true) × Says lab l old who command answer new

-- the answer is decided after a legal list that begins with all events that the window had seen, and leads to this
-- world
abbrev pub AnswersAt : LabValue → World → WindowValue → Who → Command → Answer → WindowValue → Type 0
AnswersAt lab w old who command answer new =
    (l : List Event) × IsPrefix old.seen l × (is_legal_in lab l ≡ true) × (world_in lab l ≡ w) × Says lab l old who command answer new

-- A book of the lab decides the act. The list after which the answer is decided leads to the world of this book, so
-- none of the book's events was left out. The events that the window has seen afterwards lead to the world of the book
-- afterwards
pub record AnswersAtPresent {S : Type 0} (lab : LabValue) (contents : S → Option (List ℕ)) (failures : S → ℕ) (old : WindowValue) (who : Who)
    (command : Command) (answer : Answer) (new : WindowValue) : Type 0 where
  pub before : BookValue S
  pub after : BookValue S
  pub book : IsBook lab contents before
  pub decides : Decides lab failures before who command answer after
  pub answers : AnswersAt lab (world_in lab before.events) old who command answer new
  pub sees : world_in lab new.seen ≡ world_in lab after.events

-- the nodes that an answer names are ranks in this table of identifiers
abbrev pub IsAnswered : List ℕ → Answer → Type 0
IsAnswered ids (Denied d) = Unit {0}
IsAnswered ids (Refused why) = Unit {0}
IsAnswered ids (Granted place number done) = IsDone ids done
