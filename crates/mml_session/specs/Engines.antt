-- An engine whose replies to commands are those of a session's window: what the session has seen of the list of events.
use Rattle.mml_lab.specs.{declared.who.Who.Who, Labs.LabValue}
use Rattle.mml_policy.specs.declared.command.Command.{Command}
use Rattle.mml_codec.specs.declared.reply.Reply.{Reply}
use Rattle.mml_window.specs.Windows.{WindowValue}
use Rattle.mml_session.specs.Turns.{Told}

-- the reply to a command is that of the window; the state of the engine itself doesn't matter
abbrev pub OverWindow : {E : Type 0} → LabValue → E → WindowValue → Who → Command → Reply → E → WindowValue → Type 0
OverWindow lab e v who c r e' v' = Told lab v who c r v'
