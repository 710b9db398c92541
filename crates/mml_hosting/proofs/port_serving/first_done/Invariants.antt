use Rattle.std.proofs.Common.{take}
use Rattle.mml_hosting.specs.Marks.{NoneMarked}
use Rattle.mml_hosting.proofs.port_serving.first_done.Given as goal

abbrev pub invariant-loop-candidate : goal.invariant-loop-candidate
invariant-loop-candidate g l = NoneMarked g.M.Mark.Answers l.marks (take l.candidate l.busy.items)
