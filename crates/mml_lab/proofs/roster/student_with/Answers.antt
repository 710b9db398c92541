use Rattle.std.proofs.{Common.map, Common.arith, lemmas.List.length-map}
use Rattle.mml_lab.specs.{AccountView.entry_account, Rosters.has_name_and_key, Rosters.no_account}
use Rattle.mml_lab.proofs.SearchedLemmas.{IsSoFar, at_start, at_first, at_later, at_other, at_end, is_within}
use Rattle.mml_lab.proofs.roster.student_with.Goals.{then-is_at+then-is_none, else-is_at, else-is_at-via-then-is_at+else-is_none, else-is_at-via-else-is_at}
use Rattle.mml_lab.proofs.roster.student_with.Goals as goal

pub loop-index-init : goal.loop-index-init
loop-index-init c = at_start (has_name_and_key c.args.name.now c.args.key.now) (map entry_account c.args.students.now.entries) no_account

pub loop-index-preserved : goal.loop-index-preserved
loop-index-preserved c =
    grind (arith, IsSoFar, then-is_at+then-is_none, at_first, else-is_at, else-is_at-via-then-is_at+else-is_none, at_later, else-is_at-via-else-is_at, at_other)

pub returns-clause-value : goal.returns-clause-value
returns-clause-value c = grind (arith, length-map, at_end)

pub returns-clause-within : goal.returns-clause-within
returns-clause-within c = grind (arith, length-map, is_within)
