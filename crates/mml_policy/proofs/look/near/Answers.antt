use Rattle.std.proofs.Common.{◌∙◌, ◌<◌, ◌++◌, ◌∷◌, [], ap, sym, rules, arith}
use Rattle.std.specs.FinSet as sets
use Rattle.mml_ids.proofs.SetsLemmas.{ranks_in, one_put, all_put}
use Rattle.mml_rules.specs.declared.regs.Regs.{Regs}
use Rattle.mml_board.specs.World.{size}
use Rattle.mml_board.proofs.KeptLemmas.{in_remove}
use Rattle.mml_policy.specs.Shown.{near}
use Rattle.mml_policy.proofs.NearLemmas.{shown, near-is}
use Rattle.mml_policy.proofs.look.near.Goals as goal

pub loop-other-init : goal.loop-other-init
loop-other-init c = grind (arith, shown, ranks_in, near-is)

pub loop-other-preserved : goal.loop-other-preserved
loop-other-preserved c =
    let w = c.args.board.now in
    let left = c.loop-other.left in
    let other = c.in-Some.other in
    let taken = c.in-Some.ensures in
    let below : other < size w = c.loop-other.invariant.within other taken.member in
    record {
      within = λ j h. c.loop-other.invariant.within j (in_remove left other j (ap (λ s. sets.contains s j) (sym taken.rest) ∙ h));
      so_far = one_put (shown w) (size w) left _ other c.loop-other.near.items _ (near w c.args.node) taken.member taken.least below taken.rest
          (c.push_reserved.ensures.items ∙ ap (λ (r : Regs). c.loop-other.near.items ++ (other, r) ∷ []) c.regs.ensures) c.loop-other.invariant.so_far;
      room = search rules;
    }

pub returns : goal.returns
returns c = grind (arith, all_put, shown)
