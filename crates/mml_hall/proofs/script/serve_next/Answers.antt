use Rattle.std.proofs.{lemmas.Bool.Decides.nat_tests, Common.arith, Common.inr, Common.length-append}
use Rattle.mml_lines.proofs.SendingLemmas.{nothing_sent}
use Rattle.mml_hall.proofs.ScriptsLemmas.{serves_next, none_unsent}
use Rattle.mml_hall.proofs.script.serve_next.Goals as goal

pub returns-in-Line-clause-serves : goal.returns-in-Line-clause-serves
returns-in-Line-clause-serves g c = grind (arith, nat_tests, serves_next)

pub returns-in-Line-clause-progress : goal.returns-in-Line-clause-progress
returns-in-Line-clause-progress g c = grind (arith, nat_tests, length-append)

pub returns-in-TooLong-clause-serves : goal.returns-in-TooLong-clause-serves
returns-in-TooLong-clause-serves g c =
    let says = rw (c.requires.going, c.in-TooLong.ensures.limit, c.requires.limit) at c.in-TooLong.ensures.says in
    (c.next.new.self.unread, c.in-TooLong.ensures.taken, inr says, nothing_sent _ _)

pub returns-in-End-clause-serves : goal.returns-in-End-clause-serves
returns-in-End-clause-serves g c = grind (arith, nat_tests, none_unsent)

pub returns-in-ReadFault-clause-serves : goal.returns-in-ReadFault-clause-serves
returns-in-ReadFault-clause-serves g c = grind (arith, nat_tests, none_unsent)
