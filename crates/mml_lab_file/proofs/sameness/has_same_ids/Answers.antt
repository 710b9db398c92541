use Rattle.std.proofs.{Common.refl, Common.arith, lemmas.List.ext_get_or}
use Rattle.mml_lab_file.proofs.sameness.has_same_ids.Goals as goal

pub returns : goal.returns
returns c = (λ h. ext_get_or 0 c.args.a.now c.args.b.now (omega arith) (λ k l. c.loop-index.invariant k (omega arith)), λ h. refl)
