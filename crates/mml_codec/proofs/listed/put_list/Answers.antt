use Rattle.std.proofs.Common.{◌++◌, ◌∙◌, ap, rules}
use Rattle.serde_json.specs.Written.{comma_if}
use Rattle.mml_codec.proofs.SeparatedLemmas.{comma_more, text_more, with_comma_put}
use Rattle.mml_codec.proofs.listed.put_list.Goals as goal

pub loop-item-preserved : goal.loop-item-preserved
loop-item-preserved g c = record {
  text =
      text_more (g.T.Listed.text c.args.ids.now) c.args.items.now c.loop-item.item-index _ c.args.out.now.items c.loop-item.line.items c.with_item-line.result.items
      (comma_if c.loop-item.later)
      c.loop-item-test.true c.loop-item.invariant.comma c.loop-item.invariant.text
      (c.with_item-line.ensures.text ∙ ap (λ x. c.with_comma.result.items ++ g.T.Listed.text c.args.ids.now x) c.item-item.is
      ∙ with_comma_put c.loop-item.line.items (comma_if c.loop-item.later) c.with_comma.result.items c.in-Ok.roomy.items _ c.with_comma.ensures.text (ap (λ t. t ++ comma_if c.loop-item.later) c.in-Ok.ensures.same));
  comma = comma_more (g.T.Listed.text c.args.ids.now) c.args.items.now c.loop-item.item-index c.item-item.result c.loop-item-test.true;
  capacity = search rules;
}
