-- The event that a ruling grants.
use Rattle.std.proofs.Common.{◌≡◌, ℕ, ◌<◌, Bool, true, false, nat_le, List, length, Some, arith}
use Rattle.std.{proofs.lemmas.Bool.leb-false}
use Rattle.mml_lab.specs.{declared.who.Who.Who, Rosters.RosterValue}
use Rattle.mml_board.specs.{declared.event.Event.Event, World.World, World.size, Events.is_legal}
use Rattle.mml_policy.specs.{declared.command.Command.Command, Verdicts.clauses, Rulings.ruling, Rulings.event_of}
use Rattle.mml_policy.proofs.VerdictLemmas.{IsFine, fine}

-- an event that happens is legal, the limit of events isn't reached, and the journal isn't halted
pub legal_event : (ids : List ℕ) (r : RosterValue) (limit : ℕ) (is_halted : Bool) (w : World) (x : Who) (c : Command) (e : Event) → length ids ≡ size w
    → event_of (ruling ids r limit is_halted w x c) ≡ Some e → (is_legal r w e ≡ true) × (w.place < limit) × (is_halted ≡ false)
legal_event ids r limit is_halted w x c e same k = grind (arith, leb-false, nat_le, IsFine ids r w, clauses ids r w x c, fine ids r w x same c)
