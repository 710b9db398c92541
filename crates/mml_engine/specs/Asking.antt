-- Lines of known participants that ask only to be shown something. A participant is known on a connection from a
-- granted hello to the bye.
use Rattle.std.specs.Prelude.{◌≡◌, ℕ, false, List, Option, Some, Ok}
use Rattle.mml_lab.specs.declared.who.Who.{Who}
use Rattle.mml_policy.specs.{declared.command.Command.Command, Acts.is_act}
use Rattle.mml_codec.specs.{declared.request.Request.Request, declared.request.Request.TheVariants.Do, Lines.request_in}

-- the request is a command of a known participant, and asks only to be shown something
pub record AsksToSee (known : Option Who) (request : Request) : Type 0 where
  pub who : Who
  pub command : Command
  pub by : known ≡ Some who
  pub asked : request ≡ Do command
  pub view : is_act command ≡ false

-- the line is a command of a known participant, and asks only to be shown something
pub record IsView (known : Option Who) (line : List ℕ) : Type 0 where
  pub who : Who
  pub command : Command
  pub by : known ≡ Some who
  pub asked : request_in line ≡ Ok (Do command)
  pub view : is_act command ≡ false
