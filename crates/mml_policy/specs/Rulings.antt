-- The ruling on a command, and the world after it.
use Rattle.std.specs.Prelude.{ℕ, Bool, true, false, nat_le, if◌then◌else◌, List, Option, None, Some, Result, Ok, Err}
use Rattle.std.specs.Option.{option_map_or}
use Rattle.mml_lab.specs.{declared.who.Who.Who, Rosters.RosterValue}
use Rattle.mml_board.specs.{declared.event.Event.Event, declared.denial.Denial.Denial, World.World, Events.after, Events.done_by}
use Rattle.mml_policy.specs.{declared.command.Command.Command, Verdicts.clauses, Shown.see_of, Shown.look_of}
use Rattle.mml_policy.specs.declared.ruling.Ruling.{Ruling, TheVariants.Denied, TheVariants.Seen, TheVariants.Looked, TheVariants.Reported, TheVariants.Full, TheVariants.Journal, TheVariants.Granted}
use Rattle.mml_policy.specs.declared.verdict.Leave.{Leave, TheVariants.See, TheVariants.Look, TheVariants.Report, TheVariants.Grant}

-- the ruling if all clauses hold: what is shown, or the event with its effect. No event happens if the limit is
-- reached, nor if the journal is halted
abbrev pub ruling_on_leave : ℕ → Bool → World → Leave → Ruling
ruling_on_leave limit is_halted w (See i) = Seen (see_of w i)
ruling_on_leave limit is_halted w (Look i) = Looked (look_of w i)
ruling_on_leave limit is_halted w Report = Reported
ruling_on_leave limit is_halted w (Grant e) = if nat_le limit w.place then Full else (if is_halted then Journal else Granted e (done_by w e))

-- the ruling, given the result of the clauses: what the command may do, or its denial
abbrev pub ruled : ℕ → Bool → World → Result Leave Denial → Ruling
ruled limit is_halted w (Ok l) = ruling_on_leave limit is_halted w l
ruled limit is_halted w (Err d) = Denied d

-- the ruling on a command: the denial of the first clause that doesn't hold, what is shown, or the event that happens
-- with its effect. No event happens if the limit is reached, nor if the journal is halted
abbrev pub ruling : List ℕ → RosterValue → ℕ → Bool → World → Who → Command → Ruling
ruling ids r limit is_halted w x c = ruled limit is_halted w (clauses ids r w x c)

-- the event that the ruling grants, if it grants one
abbrev pub event_of : Ruling → Option Event
event_of (Denied d) = None
event_of (Seen s) = None
event_of (Looked l) = None
event_of Reported = None
event_of Full = None
event_of Journal = None
event_of (Granted e d) = Some e

-- the world after a ruling
abbrev pub after_ruling : World → Ruling → World
after_ruling w r = option_map_or (after w) (event_of r) w

-- the ruling shows a look, which is the only ruling that needs memory
abbrev pub is_look : Ruling → Bool
is_look (Looked l) = true
is_look _ = false
