use Rattle.std.proofs.Common.{◌≡◌, ℕ, List, [], ◌∷◌, arith}
use Rattle.serde_json.specs.Data.{Members, object, no_members, put}
use Rattle.mml_plain.specs.{declared.fields.Fields.Fields, Compact.PutsMember, Holds.Holds}
use Rattle.mml_plain.proofs.FieldsLemmas.{holds_with}
use Rattle.mml_plain.proofs.CompactLemmas.{Before, After, alone, begun, comma, over, over_utf8, member}
use Rattle.mml_plain.proofs.compact_reading.read_compact.Goals as goal

pub members-init : goal.members-init
members-init c = (no_members, begun c.args.line.now c.in-Some.rest.now c.in-Some.ensures, c.requires)

one_more : (line rest more : List ℕ) (found : Members) (old new : Fields) → Before line rest found → Holds old (object found) → PutsMember rest more old new
    → (next : Members) × After line more next × Holds new (object next)
one_more line rest more found old new before holds p =
    let v = p.member.value in
    (put p.key v.datum found, member line rest more p.key p.value found p.member before, rw p.put (holds_with p.key p.value v.datum found v.shows old holds))

pub returns-then-more-eq1 : goal.returns-then-more-eq1
returns-then-more-eq1 c = λ e.
    let l = c.members in
    let s = one_more c.args.line.now l.rest.now _ l.invariant.0 l.fields _ l.invariant.1 l.invariant.2 c.in-Some-member.ensures in
    let end : c.in-Some-member.more.now ≡ 125 ∷ [] = grind (arith, alone) in
    (s.0, over_utf8 _ _ s.0 end s.1, over _ _ s.0 end s.1, s.2)

pub members-preserved : goal.members-preserved
members-preserved c =
    let l = c.members in
    let s = one_more c.args.line.now l.rest.now _ l.invariant.0 l.fields _ l.invariant.1 l.invariant.2
    c.in-Some-member.ensures in
    (s.0, comma _ _ _ s.0 c.in-Some-after_byte.ensures s.1, s.2)
