-- The first and the last line that a server prints. A house is one run of a lab that threads share. The log of a house
-- is its result at the end.
use Rattle.std.specs.{Prelude.◌≡◌, Prelude.ℕ, Prelude.false, Prelude.List, Prelude.length, Prelude.Option, Prelude.None, Io.KnownBytes.Appends}
use Rattle.mml_lab.specs.Labs.{LabValue}
use Rattle.mml_board.specs.Lists.{world_in}
use Rattle.mml_serving.specs.{declared.serving.ServedHouse.ServedHouse, declared.socket.Socket.Socket, Closings.done_line, Closings.listening_line, Serving.ServesHouse}

-- The connections were served in this house, whose log isn't halted. The first line that was written names the server's
-- port. The last line has the number of events in this log, and the number of the configuration after them. Nothing is
-- known of a socket's bytes
pub record TellsServed {S : Type 0} (lab : LabValue) (sink : S → Option (List ℕ)) (port count : ℕ) (wrote wrote' : Option (List ℕ))
    (house : ServedHouse S Socket Socket) : Type 0 where
  pub between : Option (List ℕ)
  pub first : Appends wrote between (listening_line port)
  pub serves : ServesHouse lab sink (λ _. None) (λ _. None) None count house.sessions.items house.log
  pub unhalted : house.log.halted ≡ false
  pub last : Appends between wrote' (done_line (length house.log.events) (world_in lab house.log.events).number)
