use Rattle.std.proofs.{Common.arith, lemmas.Grind.common_steps}
use Rattle.mml_class.proofs.GrantingLemmas.{unmarked_more}
use Rattle.mml_class.proofs.granting.no_marks.Goals as goal

pub places-preserved : goal.places-preserved
places-preserved c = grind (arith, common_steps, unmarked_more)

pub places-init : goal.places-init
places-init c = grind (arith, common_steps, unmarked_more)
