use Rattle.std.proofs.Common.{arith, ◌∙◌}
use Rattle.mml_class.proofs.GrantingLemmas.{found_first, fine_more, found_at_end, times_more}
use Rattle.mml_class.proofs.granting.find_misgranted.Goals as goal

pub returns-in-Some : goal.returns-in-Some
returns-in-Some c =
    found_first _ c.args.count c.places.place-index c.args.whole c.args.places.now c.places.marks.items c.mark.new.marks.items c.in-Some.amiss c.places-test.true
    c.places.invariant.length c.places.invariant.counted c.places.invariant.fine c.in-Some.ensures

pub places-preserved : goal.places-preserved
places-preserved c =
    let m = c.in_default.ensures in
    let i = c.places.invariant in
    record {
      length = m.2 ∙ i.length;
      counted = λ q. omega (arith, m.3 q, i.counted q, times_more c.places.place-index c.args.places.now q c.places-test.true);
      fine = fine_more _ _ _ _ _ i.length i.fine m;
    }

pub returns-then-whole : goal.returns-then-whole
returns-then-whole c =
    let i = c.places.invariant in
    found_at_end _ _ _ _ _ _ _ _ c.if-whole.true c.places-test.false c.deref.ensures.value i.length i.counted i.fine c.first_unmarked.ensures
