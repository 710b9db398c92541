use Rattle.std.proofs.{lemmas.Bool.Decides.nat_tests, Common.arith, lemmas.Result.err_from_is_err_and}
use Rattle.mml_host_program.specs.Tallies.{HasNoTally, IsTally}
use Rattle.mml_host_program.proofs.ClassLemmas.{all_written, part_written, none_written}
use Rattle.mml_host_program.proofs.judging.tally.write_tally.Goals as goal

pub returns-in_err-text-clause-unwritten : goal.returns-in_err-text-clause-unwritten
returns-in_err-text-clause-unwritten g c = grind (arith, nat_tests, err_from_is_err_and, none_written)

pub returns-clause-written : goal.returns-clause-written
returns-clause-written g c = grind (arith, nat_tests, all_written)

pub returns-clause-unwritten : goal.returns-clause-unwritten
returns-clause-unwritten g c =
    part_written (HasNoTally c.args.lab.now c.args.journal.items) (IsTally c.args.lab.now c.args.journal.items) (g.W.Write.contents c.args.writer.now)
    (g.W.Write.contents c.write_class.new.writer) c.write_class.result c.in_ok-text.text.items c.deref.result.now c.in_ok-text.ensures.told
    c.deref.ensures.value c.write_class.ensures.part
