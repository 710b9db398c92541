-- The first and the last lines that a host writes. A house is one run of a lab that threads share. A window is what the
-- sessions of a seat have seen of the list of events, and the places of the events that were granted to them. The place
-- of an event is its number in this list, from 1. The log of a house is its result at the end.
use Rattle.std.specs.Prelude.{◌≡◌, ℕ, false, List, [], ◌∷◌, ◌++◌, length, codes, decimal, Option}
use Rattle.std.specs.{List.concat, Io.KnownBytes.Appends}
use mathlib.Core.List.{IsPrefix}
use Rattle.mml_lab.specs.Labs.{LabValue}
use Rattle.mml_board.specs.{declared.event.Event.Event, Lists.world_in}
use Rattle.mml_window.specs.{declared.log.Log.Log, Logs.IsLogFrom, Windows.WindowValue}
use Rattle.mml_audit.specs.AuditMeaning.{IsJournalOf}
use Rattle.mml_serving.specs.Closings.{done_line}
use Rattle.mml_resuming.specs.Resuming.{whole_of, resumed_line}

-- the first line of a class, which names its ports
abbrev pub ports_line : ℕ → ℕ → List ℕ
ports_line port desk = concat (codes "listening on port " ∷ decimal port ∷ codes ", desk on port " ∷ decimal desk ∷ codes "\n" ∷ [])

-- The house of a class has this log, which isn't halted. The log's events are a legal list, and the sink has the
-- journal of this list. The places after the first `first` are those that the windows of the house were given, each
-- once. The last line was written, with the number of events and the number of the configuration after them
pub record EndsWell {S : Type 0} (first : ℕ) (lab : LabValue) (sink : S → Option (List ℕ)) (wrote wrote' : Option (List ℕ)) (log : Log S) : Type 0 where
  pub windows : List WindowValue
  pub kept : IsLogFrom first lab sink windows log
  pub unhalted : log.halted ≡ false
  pub last : Appends wrote wrote' (done_line (length log.events) (world_in lab log.events).number)

-- what the host of a class with this log has written: first its ports, and last the line about the log
pub record TellsClass {S : Type 0} (lab : LabValue) (sink : S → Option (List ℕ)) (port desk : ℕ) (wrote wrote' : Option (List ℕ)) (log : Log S) : Type 0 where
  pub between : Option (List ℕ)
  pub first : Appends wrote between (ports_line port desk)
  pub ends : EndsWell 0 lab sink between wrote' log

-- What the host of a resumed class with this log has written. The log begins with the events of the old journal. First
-- come the ports and the state after these events, and last the line about the log
pub record TellsResumed {S : Type 0} (lab : LabValue) (sink : S → Option (List ℕ)) (old : List ℕ) (port desk : ℕ) (wrote wrote' : Option (List ℕ))
    (log : Log S) : Type 0 where
  pub begun : List Event
  pub between : Option (List ℕ)
  pub journal : IsJournalOf lab begun (whole_of old)
  pub begins : IsPrefix begun log.events
  pub first : Appends wrote between (ports_line port desk ++ resumed_line (world_in lab begun))
  pub ends : EndsWell (length begun) lab sink between wrote' log
