use Rattle.mml_lab.specs.declared.TheConstants.{MAX_SESSIONS}
use Rattle.mml_window.specs.Tallies.{told_of}
use Rattle.mml_window.proofs.TallyLemmas.{counted_none, left_first}
use Rattle.mml_window.proofs.tally.is_each_once.Goals as goal

pub places-init : goal.places-init
places-init g c = counted_none c.args.first (told_of c.args.windows.now) _ (left_first c.args.windows.now MAX_SESSIONS c.requires.few)
