-- Which commands ask for an event.
use Rattle.std.specs.Prelude.{Bool, true, false}
use Rattle.mml_policy.specs.declared.command.Command.{Command}
use Rattle.mml_policy.specs.declared.command.Command.TheVariants as command

-- the command asks for an event, and doesn't ask to be shown something
abbrev pub is_act : Command → Bool
is_act (command.See node) = false
is_act (command.Look node) = false
is_act (command.Move node asked at) = true
is_act command.Close = true
is_act (command.Fault node p m) = true
is_act (command.Link a b) = true
is_act (command.Cut a b) = true
is_act (command.Release node) = true
is_act command.Report = false
