-- A house that continues a run, before it is started. A sink is the destination of a journal's bytes. A house is one
-- run of a lab that threads share: its list of granted events, the board after them, and their journal. A list of
-- events is legal if the rules allow each event after the earlier ones. A house publishes its events and board in two
-- copies: readers see one of them while the writer changes the other.
use Rattle.std.specs.Prelude.{◌≡◌, ◌≤◌, true, false, ℕ, Bool, List, length, Option}
use Rattle.mml_lab.specs.Labs.{LabValue, IsLab}
use Rattle.mml_window.specs.{declared.published.Published.Published, Journals.TellsJournal}
use Rattle.mml_board.specs.{declared.event.Event.Event, Lists.is_legal_in, Lists.world_in}

-- a copy of the data that is to be published, with these events and the board after them
pub record IsCopyOf (lab : LabValue) (begun : List Event) (x : Published) : Type 0 where
  pub board : x.board ≡ world_in lab begun
  pub limit : x.limit ≡ lab.events
  pub events : x.events.items ≡ begun

-- the two copies have the events so far, which are legal, and the sink has taken their journal
pub record IsResumed (lab : LabValue) (begun : List Event) (first second : Published) (halted : Bool) (taken : Option (List ℕ)) : Type 0 where
  pub lawful : IsLab lab
  pub legal : is_legal_in lab begun ≡ true
  pub few : length begun ≤ lab.events
  pub one : IsCopyOf lab begun first
  pub two : IsCopyOf lab begun second
  pub running : halted ≡ false
  pub journal : TellsJournal lab begun false taken
