-- What holds of a house that failed. A house is one run of a lab that threads share. The book of a house has the
-- granted events, the board after them and their journal, and the log is the result at the end. The places of a window
-- are the numbers of the events that it was granted. The places of all windows went astray if they aren't those of the
-- book's events, each once.
use Rattle.std.specs.Prelude.{◌≡◌, ◌≤◌, ◌⊎◌, ℕ, ◌+◌, true, false, List, [], All, length, Option, None}
use Rattle.std.specs.{List.list_all, Io.KnownBytes.Appends}
use mathlib.Core.List.{IsPrefix}
use Rattle.mml_lab.specs.Labs.{LabValue}
use Rattle.mml_board.specs.Lists.{world_in}
use Rattle.mml_window.specs.{declared.log.Log.Log, Books.BookValue, Books.IsBook, Tallies.IsEachOnceFrom, Tallies.told_of, Windows.WindowValue}
use Rattle.mml_serving.specs.declared.{connection.EndedSession.EndedSession, serving.ServeFault.ServeFault, socket.Socket.Socket}
use Rattle.mml_serving.specs.{Closings.IsCutShort, Closings.done_line, Serving.ServesWindows, Serving.ServesHouse, Serving.had_memory}
use Rattle.mml_serving.specs.declared.serving.ServeFault.TheVariants as fault

-- The house ended with this book. The book's events are legal, each window has seen a beginning of their list, and the
-- house's sink has their journal
pub record LeavesBook {S : Type 0} (lab : LabValue) (sink : S → Option (List ℕ)) (windows : List WindowValue) (left : BookValue S) : Type 0 where
  pub book : IsBook lab sink left
  pub seen : All (λ w. IsPrefix w.seen left.events) windows

-- The house ended with a book, but the windows' places went astray: they aren't those of the book's events after the
-- first `first` events, each once. There are at most as many places as these events
pub record WentAstrayFrom {S : Type 0} (first : ℕ) (lab : LabValue) (sink : S → Option (List ℕ)) (windows : List WindowValue) : Type 0 where
  pub left : BookValue S
  pub leaves : LeavesBook lab sink windows left
  pub places : ¬ (IsEachOnceFrom first (length left.events) (told_of windows))
  pub few : length (told_of windows) + first ≤ length left.events

-- a house that began without events ended with a book, but the windows' places went astray
abbrev pub WentAstray : {S : Type 0} → LabValue → (S → Option (List ℕ)) → List WindowValue → Type 0
WentAstray lab sink windows = WentAstrayFrom 0 lab sink windows

-- why there is no log: memory ran out, or the places of these windows went astray
abbrev pub EndsWithout : {S : Type 0} → LabValue → (S → Option (List ℕ)) → List WindowValue → ServeFault → Type 0
EndsWithout lab sink windows fault.Memory = Unit {0}
EndsWithout lab sink windows fault.Astray = WentAstray lab sink windows
EndsWithout lab sink windows _ = ⊥

-- the connections were served, but the windows' places went astray
pub record EndsAstray {S R W : Type 0} (lab : LabValue) (sink : S → Option (List ℕ)) (remaining : R → Option (List ℕ)) (contents : W → Option (List ℕ))
    (to_come : Option (List (R × W))) (count : ℕ) : Type 0 where
  pub sessions : List (EndedSession R W)
  pub windows : List WindowValue
  pub serves : ServesWindows lab remaining contents to_come count sessions windows
  pub astray : WentAstray lab sink windows

-- why there is no log: memory ran out, a connection couldn't be accepted, or all connections were served but the
-- windows' places went astray
abbrev pub EndsEarly : {S R W : Type 0} → LabValue → (S → Option (List ℕ)) → (R → Option (List ℕ)) → (W → Option (List ℕ)) → Option (List (R × W)) → ℕ
    → ServeFault → Type 0
EndsEarly lab sink remaining contents to_come count fault.Memory = Unit {0}
EndsEarly lab sink remaining contents to_come count fault.Accept = Unit {0}
EndsEarly lab sink remaining contents to_come count fault.Astray = EndsAstray lab sink remaining contents to_come count
EndsEarly lab sink remaining contents to_come count _ = ⊥

-- the connections were served, and the house has a log for which `Holds` is true
pub record EndsLogged {S R W : Type 0} (lab : LabValue) (sink : S → Option (List ℕ)) (remaining : R → Option (List ℕ)) (contents : W → Option (List ℕ))
    (to_come : Option (List (R × W))) (count : ℕ) (Holds : Log S → Type 0) : Type 0 where
  pub sessions : List (EndedSession R W)
  pub log : Log S
  pub serves : ServesHouse lab sink remaining contents to_come count sessions log
  pub holds : Holds log

-- What holds of a house that failed. Nothing was written, except that a beginning of the last line was written if the
-- writer failed
abbrev pub EndsBadly : {S R W : Type 0} → LabValue → (S → Option (List ℕ)) → (R → Option (List ℕ)) → (W → Option (List ℕ)) → Option (List (R × W)) → ℕ
    → Option (List ℕ) → Option (List ℕ) → ServeFault → Type 0
EndsBadly lab sink remaining contents to_come count wrote wrote' fault.Memory = Appends wrote wrote' []
EndsBadly lab sink remaining contents to_come count wrote wrote' fault.Place = Appends wrote wrote' []
EndsBadly lab sink remaining contents to_come count wrote wrote' fault.Accept = Appends wrote wrote' []
EndsBadly lab sink remaining contents to_come count wrote wrote' fault.Astray = EndsAstray lab sink remaining contents to_come count × Appends wrote wrote' []
EndsBadly lab sink remaining contents to_come count wrote wrote' fault.Halted =
    EndsLogged lab sink remaining contents to_come count (λ log. log.halted ≡ true) × Appends wrote wrote' []
EndsBadly lab sink remaining contents to_come count wrote wrote' fault.Write =
    EndsLogged lab sink remaining contents to_come count (λ log. (log.halted ≡ false)
    × IsCutShort wrote wrote' (done_line (length log.events) (world_in lab log.events).number) fault.Write)

-- The connections of a listener were served. The house has a log that isn't halted, and its last line was written.
-- Memory ran out neither in a session nor in a socket. Nothing is known of a socket's bytes
pub record ServesWithMemory {S : Type 0} (lab : LabValue) (sink : S → Option (List ℕ)) (count : ℕ) (wrote wrote' : Option (List ℕ)) : Type 0 where
  pub sessions : List (EndedSession Socket Socket)
  pub log : Log S
  pub serves : ServesHouse lab sink (λ _. None) (λ _. None) None count sessions log
  pub unhalted : log.halted ≡ false
  pub last : Appends wrote wrote' (done_line (length log.events) (world_in lab log.events).number)
  pub memory : list_all had_memory sessions ≡ true

-- The connections of a listener were served. The house has a log that isn't halted, and its last line was written. But
-- memory ran out in a session or a socket. Nothing is known of a socket's bytes
pub record LacksMemory {S : Type 0} (lab : LabValue) (sink : S → Option (List ℕ)) (count : ℕ) (wrote wrote' : Option (List ℕ)) : Type 0 where
  pub sessions : List (EndedSession Socket Socket)
  pub log : Log S
  pub serves : ServesHouse lab sink (λ _. None) (λ _. None) None count sessions log
  pub unhalted : log.halted ≡ false
  pub last : Appends wrote wrote' (done_line (length log.events) (world_in lab log.events).number)
  pub lacked : list_all had_memory sessions ≡ false

-- What holds of the house of a listener that failed: what `EndsBadly` states; or its last line was written, but memory
-- had run out
abbrev pub ServesBadly : {S : Type 0} → LabValue → (S → Option (List ℕ)) → ℕ → Option (List ℕ) → Option (List ℕ) → ServeFault → Type 0
ServesBadly lab sink count wrote wrote' why =
    EndsBadly {R = Socket} {W = Socket} lab sink (λ _. None) (λ _. None) None count wrote wrote' why
    ⊎ ((why ≡ fault.Memory) × LacksMemory lab sink count wrote wrote')
