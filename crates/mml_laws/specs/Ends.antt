-- When a house grants no further step. A world is the state of a run after some events: its network and its chosen
-- moves.
use Rattle.std.specs.Prelude.{◌≡◌, ℕ, Bool, None}
use Rattle.mml_lab.specs.Labs.{LabValue}
use Rattle.mml_board.specs.World.{World}
use Rattle.mml_policy.specs.{declared.command.Asked.Asked, Rulings.event_of}
use Rattle.mml_window.specs.Rulings.{ruling_while}
use Rattle.mml_lab.specs.declared.who.Who.TheVariants as who
use Rattle.mml_policy.specs.declared.command.Command.TheVariants as command

-- in this world, no student's request for a move is granted, and no request of the teacher for a close
pub record GrantsNoStep (lab : LabValue) (is_halted : Bool) (w : World) : Type 0 where
  pub no_move : (s id : ℕ) (asked : Asked) (at : ℕ) → event_of (ruling_while lab is_halted w (who.Student s) (command.Move id asked at)) ≡ None
  pub no_close : event_of (ruling_while lab is_halted w who.Teacher command.Close) ≡ None
