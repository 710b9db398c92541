use mathlib.Core.List.{IsPrefix}
use Rattle.mml_window.specs.inside.Readers.{view_by}
use Rattle.mml_window.proofs.looking.look_for.Given as goal

abbrev pub invariant-looks : goal.invariant-looks
invariant-looks g l = IsPrefix (view_by l.fn.reader).seen (view_by l.reader).seen
