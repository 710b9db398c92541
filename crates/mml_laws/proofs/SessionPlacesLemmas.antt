-- The places (numbers of events) that the replies of a session name. A window is what a session has seen of the list of
-- events.
use Rattle.std.proofs.Common.{◌≡◌, ◌≤◌, ℕ, true, List, length, inl, inr}
use mathlib.Core.List.{IsPrefix}
use Rattle.mml_lab.specs.Labs.{LabValue, IsLab}
use Rattle.mml_board.specs.{declared.event.Event.Event, Lists.is_legal_in}
use Rattle.mml_codec.specs.declared.reply.Reply.{Reply}
use Rattle.mml_lines.proofs.RunsLemmas.{run_at_each}
use Rattle.mml_engine.proofs.NamingLemmas.{none_named, told_names}
use Rattle.mml_window.proofs.PrefixLemmas.{prefix_trans}
use Rattle.mml_session.specs.{Talks.Talk, Talks.LineTurn, Turns.Standing, Turns.Turn}
use Rattle.mml_session.proofs.{EngineLemmas.seen_told, EngineLemmas.turn_does, TalkLemmas.turn_on}
use Rattle.mml_laws.specs.Told.{NamesItsEventIn, EachNamesItsEventIn}
use Rattle.mml_laws.proofs.ToldAtLemmas.{names_in}

-- if a reply names an event, each list that begins with what the window has seen contains this event
turn_names : (lab : LabValue) → IsLab lab → (l : List Event) → is_legal_in lab l ≡ true → length l ≤ lab.events → (st next : Standing) (line : List ℕ) (r : Reply)
    → Turn lab st line r next → IsPrefix next.window.seen l → NamesItsEventIn lab l st line r
turn_names lab is l legal few st next line r h begins p named = elim (turn_does lab st next r line h) [
  | inl q ↦ none_named r p q.nameless named
  | inr t ↦ names_in lab is l legal few st.known line r p next.window.seen
      (told_names lab st.known line next.window.seen r p named st.window.seen t.who t.command (seen_told lab st.window t.who t.command r next.window t.told)
      t.by t.asked) begins
]

pub talk_names : (lab : LabValue) (st : Standing) (t : Talk lab st) (l : List Event) → IsLab lab → is_legal_in lab l ≡ true → length l ≤ lab.events
    → IsPrefix t.end.window.seen l → EachNamesItsEventIn lab l st t.lines t.replies t.end t.run
talk_names lab st t l is legal few begins =
    run_at_each (Turn lab) (λ st line r next. NamesItsEventIn lab l st line r) (λ st. Unit {0}) (λ st. IsPrefix st.window.seen l)
    (λ st next line r turn so. so) (λ st next line r turn. prefix_trans st.window.seen next.window.seen l (turn_on lab st next line r turn).seen)
    (λ st next line r turn so. turn_names lab is l legal few st next line r turn) st t.end t.lines t.replies t.run tt begins

pub line_names : (lab : LabValue) (st after : Standing) (t : LineTurn lab st after) (l : List Event) → IsLab lab → is_legal_in lab l ≡ true
    → length l ≤ lab.events → IsPrefix after.window.seen l → NamesItsEventIn lab l st t.line t.reply
line_names lab st after t l is legal few begins = turn_names lab is l legal few st after t.line t.reply t.turn begins
