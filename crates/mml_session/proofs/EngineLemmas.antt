-- The turns of a session are those of an engine that replies through the session's window.
use Rattle.std.{proofs.Common.◌⊎◌, proofs.Common.ℕ, proofs.Common.List, proofs.Common.Option, proofs.Common.arith, specs.Prelude.⊤, proofs.lemmas.Bool.Decides.nat_tests}
use Rattle.mml_lab.specs.{declared.who.Who.Who, Labs.LabValue}
use Rattle.mml_board.specs.{Lists.world_in}
use Rattle.mml_policy.specs.declared.{command.Command.Command, refusal.Refusal.Refusal, ruling.Ruling.Ruling}
use Rattle.mml_codec.specs.declared.reply.{Refused.Refused, Reply.Reply}
use Rattle.mml_window.specs.{Rulings.ruling_at, Windows.WindowValue}
use Rattle.mml_session.specs.{Engines.OverWindow, Turns.Told, Turns.MayRefuse, Turns.Turn, Turns.Standing, Turns.standing}
use Rattle.mml_engine.proofs.TurnsLemmas.{IsQuiet, IsTold}
use Rattle.mml_engine.specs.Told as engine
use Rattle.mml_engine.specs.Turns as turns
use Rattle.mml_engine.proofs.TurnsLemmas as does

may_refuse : (ruled : Ruling) (why : Refused) (kept : Option Refusal) → MayRefuse ruled why kept → engine.MayRefuse ruled why
may_refuse ruled why kept h = grind (arith, nat_tests)

-- the window's reply takes into account the events that it has seen
pub seen_told : (lab : LabValue) (old : WindowValue) (who : Who) (c : Command) (r : Reply) (new : WindowValue) → Told lab old who c r new
    → engine.Told lab old.seen who c r new.seen
seen_told lab old who c r new t =
    let ruled = ruling_at lab (world_in lab t.list) who c in
    record { list = t.list; later = t.later; legal = t.legal; says = grind (arith, nat_tests, may_refuse, ruled) }

-- a turn of an engine that replies through a window is a turn of the session
pub turn_over : {E : Type 0} (lab : LabValue) (known known' : Option Who) (e e' : E) (v v' : WindowValue) (r : Reply) (line : List ℕ)
    → turns.Turn (OverWindow lab) lab.roster known e v line r known' e' v' → Turn lab (standing known v) line r (standing known' v')
turn_over lab known known' e e' v v' r line h = grind (arith, nat_tests)

-- a turn of the session is a turn of such an engine, so it answers its line at once, or through the window
pub turn_does : (lab : LabValue) (st next : Standing) (r : Reply) (line : List ℕ) → Turn lab st line r next → IsQuiet {E = ⊤} tt st.window r tt next.window
    ⊎ IsTold (OverWindow {E = ⊤} lab) st.known line tt st.window r next.known tt next.window
turn_does lab st next r line t =
    does.turn_does (OverWindow {E = ⊤} lab) lab.roster st.known tt st.window line r next.known tt next.window (grind (arith, nat_tests))
