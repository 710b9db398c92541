use Rattle.std.proofs.Common.{◌∙◌, rules}
use Rattle.mml_codec.specs.inside.FieldViews.{field_view}
use Rattle.mml_codec.proofs.FieldsLemmas.{object_written, object_ended}
use Rattle.mml_codec.proofs.object.object_text.Goals as goal

pub returns : goal.returns
returns c =
    object_written _ _ _ _ (search rules)
    (c.in_ok-end_object.ensures.ok ∙ object_ended
    (λ m. (m.0.now, field_view m.1)) c.args.members.now c.loop-member.member-index _ _ c.loop-member-test.false c.loop-member.invariant.tokens)
    c.into_inner.ensures.items
