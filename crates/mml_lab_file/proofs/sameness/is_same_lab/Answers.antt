use Rattle.std.proofs.Common.{rules, refl, arith}
use Rattle.mml_lab_file.specs.Sameness.{IsSameNode}
use Rattle.mml_lab_file.proofs.SamenessLemmas.{all_next}
use Rattle.mml_lab_file.proofs.sameness.is_same_lab.Goals as goal

pub loop-index-preserved : goal.loop-index-preserved
loop-index-preserved c = all_next (λ i. IsSameNode c.args.a.now c.args.b.now i) c.loop-index.index c.loop-index.invariant (search rules)

pub returns : goal.returns
returns c = (λ h. record { ids = search rules; names = search rules; nodes = λ i q. c.loop-index.invariant i (omega arith) }, λ h. refl)
