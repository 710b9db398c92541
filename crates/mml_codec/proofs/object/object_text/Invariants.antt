use Rattle.std.proofs.Common.{◌≡◌, ◌++◌, [], drop, map}
use Rattle.json.specs.Tree.{json_tokens, members_tokens}
use Rattle.serde_json.specs.Written.{outline, members_outline}
use Rattle.mml_codec.specs.{Fields.members_of, Fields.object_of, inside.FieldViews.field_view}
use Rattle.mml_codec.proofs.object.object_text.Given as goal

abbrev pub invariant-loop-member : goal.invariant-loop-member
invariant-loop-member l = record {
  before : l.writer.before ≡ [];
  tokens : l.writer.tokens ++ members_tokens (members_outline (members_of (map (λ m. (m.0.now, field_view m.1)) (drop l.member-index l.members))))
      ≡ json_tokens (outline (object_of (map (λ m. (m.0.now, field_view m.1)) l.members)));
}
