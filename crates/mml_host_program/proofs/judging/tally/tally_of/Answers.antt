use Rattle.std.proofs.Common.{◌≡◌, ◌++◌}
use Rattle.mml_tally.specs.{Texts.tally_text, Rounds.rounds_line}
use Rattle.mml_host_program.specs.Tallies.{IsTally}
use Rattle.mml_host_program.proofs.{ClassLemmas.weaker_ok, TallyLemmas.tally_is}
use Rattle.mml_host_program.proofs.judging.tally.tally_of.Goals as goal

pub returns-in-Ok-clause-told : goal.returns-in-Ok-clause-told
returns-in-Ok-clause-told c =
    weaker_ok c.text_of.result (λ text. text.items ≡ tally_text c.args.lab.now c.in-Ok.audited.board c.as_slice.result.now ++ rounds_line c.args.lab.now c.as_slice.result.now)
    (λ text. IsTally c.args.lab.now c.args.journal.items text.items)
    (λ text told. tally_is c.args.lab.now c.in-Ok.audited.events.items c.as_slice.result.now c.args.journal.items text.items c.in-Ok.audited.board
    c.in-Ok.ensures.journal c.as_slice.ensures.value c.in-Ok.ensures.board told)
    c.text_of.ensures.text
