use Rattle.mml_tally.proofs.StudentDenialsLemmas.{are_sums}
use Rattle.mml_laws.proofs.ColumnsLemmas.{class_named}
use Rattle.mml_laws.proofs.laws.columns.columns_are_sums_in_a_class.Goals as goal

pub returns : goal.returns
returns c = record { named = class_named; sums = λ lab l start texts r s is. are_sums r.asks.items s (class_named lab l start texts r is) }
