-- The event that a reply names. The place of an event is its number in the list of events, from 1. A participant is
-- known on a connection from a granted hello to a bye. A hall answers requests in one thread.
use Rattle.std.specs.{Prelude.◌≡◌, Prelude.ℕ, Prelude.◌+◌, Prelude.List, Prelude.[], Prelude.◌∷◌, Prelude.◌++◌, Prelude.length, Prelude.Option, Prelude.Some, Prelude.Ok, List.slice_get}
use Rattle.mml_lines.specs.{LinesOf.lines_of, Runs.AtEach}
use Rattle.mml_lab.specs.{declared.who.Who.Who, Labs.LabValue}
use Rattle.mml_board.specs.{declared.done.Done.Done, declared.event.Event.Event, Lists.world_in}
use Rattle.mml_policy.specs.declared.{command.Command.Command, ruling.Ruling.TheVariants.Granted}
use Rattle.mml_journal.specs.{EventLines.event_line, JournalText.text_in}
use Rattle.mml_codec.specs.{declared.reply.Reply.Reply, declared.request.Request.TheVariants.Do, Lines.request_in, Replies.place_in, Rulings.reply_of_done}
use Rattle.mml_hall.specs.Turns.{State, RequestLine, TurnOf, Run, known_on}
use Rattle.mml_window.specs.Rulings.{ruling_at}
use Rattle.mml_session.specs.Turns as session

-- The command of x is granted event p of the list, after the events before it. Line p of the list's journal is the
-- event's line. The reply has the event's effect, its place, and the number of the configuration after it
pub record IsToldAt (lab : LabValue) (l : List Event) (p : ℕ) (x : Who) (command : Command) (r : Reply) : Type 0 where
  pub before : List Event
  pub event : Event
  pub later : List Event
  pub done : Done
  pub order : l ≡ before ++ event ∷ later
  pub place : p ≡ length before + 1
  pub ruled : ruling_at lab (world_in lab before) x command ≡ Granted event done
  pub line : slice_get (lines_of (text_in lab l)) (length before) ≡ Some (event_line lab.ids lab.roster p (world_in lab before).number event)
  pub reply : r ≡ reply_of_done (world_in lab (before ++ event ∷ [])).number p done

-- if the reply to a line names a place of the list, a participant was known when the line came, and the line asked for
-- the event at that place
abbrev pub NamesItsEvent : LabValue → List Event → Option Who → List ℕ → Reply → Type 0
NamesItsEvent lab l known line r =
    (p : ℕ) → place_in r ≡ Some p
    → (x : Who) × (command : Command) × (known ≡ Some x) × (request_in line ≡ Ok (Do command)) × IsToldAt lab l p x command r

-- in a run of a hall, each reply that names a place names the event for which its line asked
abbrev pub EachNamesItsEvent : (lab : LabValue) (l : List Event) (st : State) (lines : List RequestLine) (rs : List Reply) (end : State)
    → Run lab st lines rs end → Type 0
EachNamesItsEvent lab l st lines rs end run =
    AtEach (TurnOf lab) (λ st line r next. NamesItsEvent lab l (known_on st line.connection) line.request r) st lines rs end run

-- if a session's reply names a place of the list, its line asked for the event at that place
abbrev pub NamesItsEventIn : LabValue → List Event → session.Standing → List ℕ → Reply → Type 0
NamesItsEventIn lab l st line r = NamesItsEvent lab l st.known line r

-- in a session, each reply that names a place names the event for which its line asked
abbrev pub EachNamesItsEventIn : (lab : LabValue) (l : List Event) (st : session.Standing) (lines : List (List ℕ)) (rs : List Reply)
    (end : session.Standing) → session.Run lab st lines rs end → Type 0
EachNamesItsEventIn lab l st lines rs end run =
    AtEach (session.Turn lab) (λ st line r next. NamesItsEventIn lab l st line r) st lines rs end run
