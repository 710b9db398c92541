use Rattle.std.proofs.{lemmas.Bool.Decides.nat_tests, Common.arith, Common.refl, lemmas.Result.err_from_is_err_and}
use Rattle.mml_host_program.specs.Judging.{IsJudged, IsUntold}
use Rattle.mml_host_program.proofs.ClassLemmas.{all_written, part_written, none_written}
use Rattle.mml_host_program.proofs.judging.judged.judge_class.Goals as goal

pub returns-in_err-text-clause-unwritten : goal.returns-in_err-text-clause-unwritten
returns-in_err-text-clause-unwritten g c = λ start texts tell.
    let p = err_from_is_err_and c.from_residual.result c.from_residual.ensures.1 in
    rw (p.1, p.2)
    (none_written (IsUntold c.args.lab.now c.args.journal.items start texts) (IsJudged c.args.is_tallied c.args.lab.now c.args.journal.items start texts)
    (g.W.Write.contents c.args.writer.now) _ (λ never. never) _ refl (c.in_err-text.ensures.untold start texts tell))

pub returns-clause-written : goal.returns-clause-written
returns-clause-written g c = grind (arith, nat_tests, all_written)

pub returns-clause-unwritten : goal.returns-clause-unwritten
returns-clause-unwritten g c = λ start texts tell.
    part_written (IsUntold c.args.lab.now c.args.journal.items start texts) (IsJudged c.args.is_tallied c.args.lab.now c.args.journal.items start texts)
    (g.W.Write.contents c.args.writer.now) (g.W.Write.contents c.write_class.new.writer) c.write_class.result c.in_ok-text.text.items c.deref.result.now
    (c.in_ok-text.ensures.told start texts tell) c.deref.ensures.value c.write_class.ensures.part
