-- What the sessions of a server answered. The server is a house, that is, one run of a lab that threads share. Each
-- connection has a window: what its session has seen of the list of events, and the places of the events that were
-- granted to it.
use Rattle.std.specs.Prelude.{ℕ, List, [], ◌∷◌, ◌++◌, length, replicate, Option}
use Rattle.mml_lab.specs.Labs.{LabValue}
use Rattle.mml_window.specs.{declared.log.Log.Log, Windows.WindowValue, Windows.window}
use Rattle.mml_serving.specs.{declared.connection.Connection.Connection, declared.connection.EndedSession.EndedSession, Serving.Each, Serving.IsServed, Serving.ServesHouse}
use Rattle.mml_laws.specs.Served.{Answered, answers_in}

-- the answered lines of each connection's session
abbrev pub answers_of : {R W : Type 0} (lab : LabValue) (remaining : R → Option (List ℕ)) (contents : W → Option (List ℕ))
    (cs : List (Connection R W)) (ss : List (EndedSession R W)) (ws : List WindowValue) → Each (IsServed lab remaining contents) cs ss ws
    → List (List (List Answered))
answers_of lab remaining contents (c ∷ cs) (s ∷ ss) (w ∷ ws) served =
    (answers_in s.end lab (window [] []) w (remaining c.reader) (remaining s.connection.reader) (contents c.writer) (contents s.connection.writer) served.0.1 ∷ [])
    ∷ answers_of lab remaining contents cs ss ws served.1
answers_of lab remaining contents _ _ _ served = []

-- the answered lines of each connection that was served, and none for each connection that didn't come
abbrev pub answers_in_house : {S R W : Type 0} (lab : LabValue) (sink : S → Option (List ℕ)) (remaining : R → Option (List ℕ)) (contents : W → Option (List ℕ))
    (to_come : Option (List (R × W))) (count : ℕ) (sessions : List (EndedSession R W)) (log : Log S)
    → ServesHouse lab sink remaining contents to_come count sessions log → List (List (List Answered))
answers_in_house lab sink remaining contents to_come count sessions log h =
    answers_of lab remaining contents h.serves.each.connections sessions h.serves.used h.serves.each.served ++ replicate (length h.serves.unused) []
