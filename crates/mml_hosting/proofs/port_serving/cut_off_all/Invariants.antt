use Rattle.std.proofs.Common.{All, take}
use Rattle.mml_hosting.proofs.port_serving.cut_off_all.Given as goal

abbrev pub invariant-loop-index : goal.invariant-loop-index
invariant-loop-index g l = All (λ b. g.Y.CutOff.CutOff.IsCutOff b.cut_off) (take l.index l.busy.items)
