use Rattle.std.proofs.Common.{◌≡◌}
use Rattle.mml_host_program.specs.Judging.{IsJudged, judged_text}
use Rattle.mml_host_program.proofs.ClassLemmas.{weaker_ok}
use Rattle.mml_host_program.proofs.judging.judged.text_beside.Goals as goal

pub returns-in-Ok-clause-told : goal.returns-in-Ok-clause-told
returns-in-Ok-clause-told g c = λ bytes start texts journal tell.
    weaker_ok c.text_of.result (λ text. text.items ≡ judged_text c.args.is_tallied c.args.lab.now c.args.events.now c.in-Ok.class)
    (λ text. IsJudged c.args.is_tallied c.args.lab.now bytes start texts text.items)
    (λ text told. record { events = c.args.events.now; class = c.in-Ok.class; journal = journal; record_of = c.in-Ok.ensures.passes start texts tell; told = told })
    c.text_of.ensures.text

pub returns-in-Err-clause-untold : goal.returns-in-Err-clause-untold
returns-in-Err-clause-untold g c = λ bytes start texts journal tell. record {
  events = c.args.events.now;
  journal = journal;
  refused = c.in-Err.ensures.refused start texts tell;
}
