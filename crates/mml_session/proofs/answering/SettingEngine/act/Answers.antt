use Rattle.std.proofs.Common.{◌∙◌}
use Rattle.mml_session.proofs.{EngineLemmas.seen_told, TellingLemmas.granted_told}
use Rattle.mml_session.proofs.answering.SettingEngine.act.Goals as goal

pub returns-in-Granted-clause-told : goal.returns-in-Granted-clause-told
returns-in-Granted-clause-told g c = rw (c.put_in.ensures ∙ c.reply_of_done.ensures)
    (seen_told _ c.args.at.now _ _ _ c.ask-answer.new.window
    (granted_told _ _ _ _ _ c.in-Granted.place c.in-Granted.number c.in-Granted.done c.in-Granted.ensures.answers))
