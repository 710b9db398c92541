use Rattle.std.proofs.{Common.◌≡◌, Common.◌∷◌, Common.[], Common.◌++◌, Common.◌∙◌, Common.ap, Common.sym, Common.length, Common.arith, Common.append_assoc}
use Rattle.std.specs.Vec.Iter.{into_iter_items}
use Rattle.mml_lab_file.proofs.NameTwiceLemmas.{at_fault, at_next}
use Rattle.mml_lab_file.proofs.enrolling.fill.Goals as goal

pub returns-then-is_taken : goal.returns-then-is_taken
returns-then-is_taken c =
    let at = c.loop-student.invariant in
    let parts = ap (λ zs. c.loop-student.yielded ++ zs) (sym c.in-Some.ensures.steps.0) ∙ at.left in
    search (arith, at_fault)

pub loop-student-preserved : goal.loop-student-preserved
loop-student-preserved c =
    let at = c.loop-student.invariant in
    let steps : into_iter_items c.loop-student.student-iterator ≡ c.in-Some.student ∷ into_iter_items c.next.new.self = c.in-Some.ensures.steps.0 in
    let parts = ap (λ zs. c.loop-student.yielded ++ zs) (sym steps) ∙ at.left in
    record {
      left = append_assoc c.loop-student.yielded (c.in-Some.student ∷ []) (into_iter_items c.next.new.self) ∙ parts;
      counted = let was = at.counted in let gone = c.in-Some.ensures.steps.1 in let short = ap length steps in omega arith;
      so_far = at_next _ _ _ _ _ _ _ _ _ _ at.so_far parts c.in_ok-append.ensures.entries
          c.as_str.ensures.value c.as_str-in-loop-student.ensures.value c.is_taken.ensures c.if-is_taken.false;
    }
