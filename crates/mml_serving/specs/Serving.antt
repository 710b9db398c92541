-- Connections that were served in the order in which they came. A window is what a session has seen of the list of
-- events, and the places of the events that were granted to it. The place of an event is its number in this list, from
-- 1. A house is one run of a lab that threads share. The log of a house is its result at the end.
use Rattle.std.specs.Prelude.{◌≡◌, ℕ, Bool, true, false, not, ◌&&◌, ◌+◌, List, [], ◌∷◌, ◌++◌, All, length, map, ⊤, Option}
use Rattle.mml_lab.specs.Labs.{LabValue}
use Rattle.mml_window.specs.{declared.log.Log.Log, Logs.IsLog, Windows.WindowValue, Windows.window}
use Rattle.mml_session.specs.{declared.session.SessionEnd.SessionEnd, Ends.Ended}
use Rattle.mml_serving.specs.{declared.connection.Connection.Connection, declared.connection.EndedSession.EndedSession, declared.socket.Socket.Socket, Arriving.Takes}
use Rattle.mml_session.specs.declared.session.SessionEnd.TheVariants as end

-- the three lists have one length, and P is true of the elements at each index
abbrev pub Each : {A B C : Type 0} → (A → B → C → Type 0) → List A → List B → List C → Type 0
Each P [] [] [] = Unit {0}
Each P (x ∷ xs) (y ∷ ys) (z ∷ zs) = P x y z × Each P xs ys zs
Each P _ _ _ = ⊥

-- the connection was served until its session ended, through a window that had seen nothing
abbrev pub IsServed : {R W : Type 0} → LabValue → (R → Option (List ℕ)) → (W → Option (List ℕ)) → Connection R W → EndedSession R W → WindowValue → Type 0
IsServed lab remaining contents c s w =
    (s.connection.number ≡ c.number)
    × Ended s.end lab (window [] []) w (remaining c.reader) (remaining s.connection.reader) (contents c.writer) (contents s.connection.writer)

-- the reading and the writing end of a connection, without its number
abbrev pub ends_of : {R W : Type 0} → Connection R W → R × W
ends_of c = (c.reader, c.writer)

-- the first connection has the number n, and each later one has the next number
abbrev pub Numbered : {R W : Type 0} → ℕ → List (Connection R W) → Type 0
Numbered n [] = ⊤
Numbered n (c ∷ cs) = (c.number ≡ n) × Numbered (n + 1) cs

-- the first `count` connections to come were numbered from 1, and each was served until its session ended, through a
-- window that had seen nothing
pub record ServesAll {R W : Type 0} (lab : LabValue) (remaining : R → Option (List ℕ)) (contents : W → Option (List ℕ))
    (to_come : Option (List (R × W))) (count : ℕ)
    (sessions : List (EndedSession R W)) (windows : List WindowValue) : Type 0 where
  pub connections : List (Connection R W)
  pub left : Option (List (R × W))
  pub came : Takes to_come left (map ends_of connections)
  pub all : length connections ≡ count
  pub numbered : Numbered 1 connections
  pub served : Each (IsServed lab remaining contents) connections sessions windows

-- the connections were served, as `ServesAll` states, through the first windows of the house. Nobody was served through
-- the others, and they have seen nothing. Altogether there are as many windows as the lab has sessions
pub record ServesWindows {R W : Type 0} (lab : LabValue) (remaining : R → Option (List ℕ)) (contents : W → Option (List ℕ))
    (to_come : Option (List (R × W))) (count : ℕ)
    (sessions : List (EndedSession R W)) (windows : List WindowValue) : Type 0 where
  pub used : List WindowValue
  pub unused : List WindowValue
  pub parts : windows ≡ used ++ unused
  pub all : length windows ≡ lab.sessions
  pub idle : All (λ w. w ≡ window [] []) unused
  pub each : ServesAll lab remaining contents to_come count sessions used

-- The connections were served, as `ServesWindows` states, and the house has this log. The log's events are a legal
-- list, and each window has seen a beginning of this list. The places that the windows were given are those of the
-- events, each once
pub record ServesHouse {S R W : Type 0} (lab : LabValue) (sink : S → Option (List ℕ)) (remaining : R → Option (List ℕ)) (contents : W → Option (List ℕ))
    (to_come : Option (List (R × W))) (count : ℕ) (sessions : List (EndedSession R W)) (log : Log S) : Type 0 where
  pub windows : List WindowValue
  pub serves : ServesWindows lab remaining contents to_come count sessions windows
  pub kept : IsLog lab sink windows log

-- whether the session ended because memory ran out
abbrev pub is_for_memory : SessionEnd → Bool
is_for_memory end.Memory = true
is_for_memory _ = false

-- whether memory sufficed: the session didn't end because memory ran out, and no read or write of its socket failed for
-- that reason
abbrev pub had_memory : EndedSession Socket Socket → Bool
had_memory s = not (is_for_memory s.end) && (not s.connection.reader.end.lacked_memory && not s.connection.writer.end.lacked_memory)
