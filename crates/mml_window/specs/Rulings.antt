-- The rulings in a world of a lab. A world is a network with its registers, its chosen moves, the number of its
-- configuration, and the number of events so far. A ruling is what the policy decides about a command. After a write of
-- a line has failed, the journal is halted, and takes no more lines.
use Rattle.std.specs.Prelude.{Bool, false}
use Rattle.mml_lab.specs.{declared.who.Who.Who, Labs.LabValue}
use Rattle.mml_board.specs.World.{World}
use Rattle.mml_policy.specs.{declared.command.Command.Command, declared.ruling.Ruling.Ruling, Rulings.ruling}

-- the ruling on a command in a world of the lab; `is_halted` is whether the journal is halted
abbrev pub ruling_while : LabValue → Bool → World → Who → Command → Ruling
ruling_while lab is_halted w who command = ruling lab.ids lab.roster lab.events is_halted w who command

-- the ruling on a command in a world of the lab if the journal isn't halted
abbrev pub ruling_at : LabValue → World → Who → Command → Ruling
ruling_at lab w who command = ruling_while lab false w who command
