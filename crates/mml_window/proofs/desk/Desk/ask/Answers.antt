use Rattle.std.proofs.{Common.rules, Common.◌≡◌, Common.◌∙◌}
use Rattle.mml_window.proofs.AnswerLemmas.{present}
use Rattle.mml_window.proofs.desk.Desk.ask.Goals as goal

pub returns-clause-present : goal.returns-clause-present
returns-clause-present g c =
    let same = c.read_until_board.ensures.world ∙ c.press.ensures.board in
    let book : c.deref_mut-2.result.now ≡ c.deref.result.now = search rules in
    let events : c.press-2.result.now.desk.shown.value.events.items ≡ c.decide_into-answer.new.self.events = search rules in
    let counted : c.deref_mut-3.result.now ≡ c.decide_into-answer.new.self = search rules in
    present g.H.House.lab g.S.Sink.contents g.S.Sink.failures c.deref.result.now c.decide_into-answer.new.self c.args.window.now c.read_until_board.new.self
    c.keep.new.self c.count_halt.new.window c.args.who c.args.command.now c.press.ensures.book c.read_until_board.ensures.on same c.decide_into-answer.result
    (rw book at c.decide_into-answer.ensures.decides) (rw events at c.keep.ensures) (rw counted at c.count_halt.ensures.window)

pub returns-clause-answers : goal.returns-clause-answers
returns-clause-answers g c = let p = (returns-clause-present g c).answers in (p.0, p.1, p.2, p.4)
