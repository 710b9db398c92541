-- Which verdicts grant an event, and which rulings show something.
use Rattle.std.specs.Prelude.{◌≡◌, ℕ, List}
use Rattle.mml_lab.specs.{declared.who.Who.Who, Rosters.RosterValue}
use Rattle.mml_board.specs.{declared.event.Event.Event, World.World}
use Rattle.mml_policy.specs.{declared.command.Command.Command, Verdicts.verdict}
use Rattle.mml_policy.specs.declared.ruling.Ruling.{Ruling, TheVariants.Denied, TheVariants.Seen, TheVariants.Looked, TheVariants.Reported, TheVariants.Full, TheVariants.Journal, TheVariants.Granted}
use Rattle.mml_policy.specs.declared.verdict.Verdict.TheVariants as verdicts

-- the verdict on the command grants an event
abbrev pub IsGrantable : List ℕ → RosterValue → World → Who → Command → Type 0
IsGrantable ids r w x c = (e : Event) × (verdict ids r w x c ≡ verdicts.Grant e)

-- the ruling shows a node or a report
abbrev pub IsShown : Ruling → Type 0
IsShown (Denied d) = ⊥
IsShown (Seen s) = Unit {0}
IsShown (Looked l) = Unit {0}
IsShown Reported = Unit {0}
IsShown Full = ⊥
IsShown Journal = ⊥
IsShown (Granted e done) = ⊥
