-- The event that a reply of any engine names. The place of an event is its number in the list of events, from 1.
use Rattle.std.specs.Prelude.{◌≡◌, ℕ, true, List, [], ◌∷◌, ◌++◌, Option, Some, Ok}
use Rattle.mml_lab.specs.{declared.who.Who.Who, Labs.LabValue}
use Rattle.mml_board.specs.{declared.done.Done.Done, declared.event.Event.Event, Events.after, Lists.is_legal_in, Lists.world_in}
use Rattle.mml_policy.specs.declared.{command.Command.Command, ruling.Ruling.TheVariants.Granted}
use Rattle.mml_codec.specs.{declared.reply.Reply.Reply, declared.request.Request.TheVariants.Do, Lines.request_in, Rulings.reply_of_done}
use Rattle.mml_engine.specs.Told.{ruling_at}

-- the line is a command of a known participant, which is granted after the events `before`. The granted event is the
-- last one that the session has seen. The reply has this event's effect, its place, and the number of the configuration
-- after it
pub record NamesLast (lab : LabValue) (known : Option Who) (line : List ℕ) (r : Reply) (p : ℕ) (seen : List Event) : Type 0 where
  pub who : Who
  pub command : Command
  pub event : Event
  pub done : Done
  pub before : List Event
  pub by : known ≡ Some who
  pub asked : request_in line ≡ Ok (Do command)
  pub legal : is_legal_in lab before ≡ true
  pub last : seen ≡ before ++ event ∷ []
  pub ruled : ruling_at lab (world_in lab before) who command ≡ Granted event done
  pub place : p ≡ (after (world_in lab before) event).place
  pub reply : r ≡ reply_of_done (after (world_in lab before) event).number p done
