-- The result of a command in an engine of one thread.
use Rattle.std.specs.Prelude.{ℕ, ⊤}
use Rattle.mml_lab.specs.declared.who.Who.{Who}
use Rattle.mml_policy.specs.{declared.command.Command.Command, Rulings.ruling}
use Rattle.mml_codec.specs.declared.reply.Reply.{Reply}
use Rattle.mml_hall.specs.{Halls.HallValue, Turns.Comes, Turns.Halts, Turns.outcome_of}

-- the reply and the new state are those of the ruling after all events so far, unless memory ran out or a write failed
-- (`Comes`); the journal halts only if a write fails
abbrev pub TellsHere : {S : Type 0} → (S → ℕ) → HallValue S → ⊤ → Who → Command → Reply → HallValue S → ⊤ → Type 0
TellsHere failures e v who c r e' v' =
    Comes e.state (outcome_of e.state (ruling e.lab.ids e.lab.roster e.lab.events e.state.halted e.state.world who c)) (record { reply = r; state = e'.state })
    × Halts e.state.halted e'.state.halted (failures e.sink) (failures e'.sink)
