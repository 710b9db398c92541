-- The reply to a command, and the events that the session has seen after it. A ruling is what the policy decides about
-- a command. A world is a network with its registers, its chosen moves, the number of its configuration, and the number
-- of events so far. After a write of a line has failed, the journal is halted, and takes no more lines. A list of
-- events is legal if the rules allow each event after the earlier ones.
use Rattle.std.specs.Prelude.{◌≡◌, ◌⊎◌, true, false, List, [], ◌∷◌, ◌++◌, Option, None, Some}
use mathlib.Core.List.{IsPrefix}
use Rattle.mml_lab.specs.{declared.who.Who.Who, Labs.LabValue}
use Rattle.mml_board.specs.{declared.event.Event.Event, World.World, Lists.is_legal_in, Lists.world_in}
use Rattle.mml_policy.specs.declared.{command.Command.Command, ruling.Ruling.Ruling, ruling.Ruling.TheVariants.Looked, ruling.Ruling.TheVariants.Reported, ruling.Ruling.TheVariants.Granted}
use Rattle.mml_policy.specs.Rulings.{ruling, event_of, after_ruling}
use Rattle.mml_codec.specs.{declared.reply.Refused.Refused, declared.reply.Reply.Reply, Rulings.reply_of}
use Rattle.mml_codec.specs.declared.reply.Refused.TheVariants as refused
use Rattle.mml_codec.specs.declared.reply.Reply.TheVariants as reply

-- the ruling on a command in the world w of the lab, if the journal isn't halted
abbrev pub ruling_at : LabValue → World → Who → Command → Ruling
ruling_at lab w who command = ruling lab.ids lab.roster lab.events false w who command

-- the list, with the event that a ruling granted appended if it granted one
abbrev pub entered : List Event → Option Event → List Event
entered l None = l
entered l (Some e) = l ++ e ∷ []

-- the refusal may come in place of the ruling: `memory` in place of a look, a report or a grant, and `journal` only in
-- place of a grant
abbrev pub MayRefuse : Ruling → Refused → Type 0
MayRefuse (Looked l) refused.Memory = Unit {0}
MayRefuse Reported refused.Memory = Unit {0}
MayRefuse (Granted e done) refused.Memory = Unit {0}
MayRefuse (Granted e done) refused.Journal = Unit {0}
MayRefuse _ _ = ⊥

-- the reply is the one for the ruling after the events l; the session has then seen l and the event that was granted,
-- if one was
abbrev pub Plainly : LabValue → List Event → Ruling → Reply → List Event → Type 0
Plainly lab l ruled r new = (r ≡ reply_of (after_ruling (world_in lab l) ruled) ruled) × (new ≡ entered l (event_of ruled))

-- the reply is a refusal in place of the ruling after the events l, and the session has then seen l
abbrev pub Refuses : List Event → Ruling → Reply → List Event → Type 0
Refuses l ruled r new = (why : Refused) × (r ≡ reply.Refuse why) × MayRefuse ruled why × (new ≡ l)

-- the reply to a command, which is judged after a legal list of events that begins with all events seen before
pub record Told (lab : LabValue) (old : List Event) (who : Who) (c : Command) (r : Reply) (new : List Event) : Type 0 where
  pub list : List Event
  pub later : IsPrefix old list
  pub legal : is_legal_in lab list ≡ true
  pub says : Plainly lab list (ruling_at lab (world_in lab list) who c) r new ⊎ Refuses list (ruling_at lab (world_in lab list) who c) r new

-- `Told` for an engine and the part of it that belongs to a session; `lab` returns the lab of an engine, and `seen` the
-- events that the session has seen
abbrev pub told_by : {E V : Type 0} → (E → LabValue) → (E → V → List Event) → E → V → Who → Command → Reply → E → V → Type 0
told_by lab seen e v who c r e' v' = Told (lab e) (seen e v) who c r (seen e' v')
