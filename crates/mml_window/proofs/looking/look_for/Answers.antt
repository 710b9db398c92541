use Rattle.std.proofs.Common.{◌∙◌}
use Rattle.mml_window.proofs.PrefixLemmas.{prefix_trans}
use Rattle.mml_window.proofs.looking.look_for.Goals as goal

pub returns-then-is_found : goal.returns-then-is_found
returns-then-is_found g c =
    let x = c.in-Some-enter.reading.part.value in
    let f = c.in-Some-enter.ensures.saw in
    let says = rw c.if-is_found.true at c.is_sought-is_found.ensures in (
      x,
      record { shown = c.get.result; shows = c.get.ensures; says = record { met = says } },
      record { view = c.leave.ensures ∙ f.view; begins = prefix_trans _ _ _ c.looks.invariant (rw c.take_slot.ensures at f.begins); published = f.published },
    )
