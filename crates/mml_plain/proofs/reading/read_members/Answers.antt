use Rattle.std.proofs.Common.{◌≡◌, ℕ, ◌-◌, ◌≤◌, List, Bool, length, Some, None, refl, ◌∙◌, arith}
use Rattle.std.specs.Bool.{MatchBool}
use Rattle.json.specs.{Token.Token, Json.read_key}
use Rattle.json.proofs.Grammar.{read_key-shorter}
use Rattle.serde_json.specs.Data.{Members, object, no_members, put}
use Rattle.mml_plain.specs.{Reading.members_at, Reading.if_over, Holds.Holds, declared.fields.Fields.Fields}
use Rattle.mml_plain.proofs.{FieldsLemmas.holds_with, ReadingLemmas.members_next, ReadingLemmas.members_more}
use Rattle.mml_plain.proofs.reading.read_members.Goals as goal

pub members-init : goal.members-init
members-init c = (length c.args.reader.now, no_members, omega arith, refl, c.requires)

pub returns-in_default : goal.returns-in_default
returns-in_default c = grind (arith, members_next)

over : (b : Bool) (start ts rest : List Token) (n : ℕ) (found : Members) (fields : Fields)
    → members_at 126 no_members (length start) start ≡ members_at 126 found n ts → length ts ≤ n → read_key ts ≡ Some (None, rest)
    → MatchBool b (if_over (Some (found, rest)) ≡ Some found) (if_over (Some (found, rest)) ≡ None) → Holds fields (object found)
    → MatchBool b ((ms : Members) × (if_over (members_at 126 no_members (length start) start) ≡ Some ms) × Holds fields (object ms))
    (if_over (members_at 126 no_members (length start) start) ≡ None)
over b start ts rest n found fields same within end is holds = grind (arith, members_next)

pub returns-in_default-next : goal.returns-in_default-next
returns-in_default-next c =
    let l = c.members in
    over c.is_over.result _ l.reader c.next_key.new.self l.invariant.0 l.invariant.1 l.fields l.invariant.3 l.invariant.2 (grind arith)
    (c.is_over.ensures l.invariant.1) l.invariant.4

pub returns-in_default-read_value : goal.returns-in_default-read_value
returns-in_default-read_value c = grind (arith, members_next)

pub members-preserved : goal.members-preserved
members-preserved c =
    let l = c.members in
    let n = l.invariant.0 in
    let k = c.in-Some.key.now in
    let s = c.next_key.new.self in
    let v = c.in-Some-read_value.value in
    let named : read_key l.reader ≡ Some (Some k, s) = grind arith in
    let less = read_key-shorter l.reader (Some k) s named in
    let got = c.in-Some-read_value.ensures.value in
    let lesser = c.in-Some-read_value.ensures.shorter in (
      n - 1,
      put k got.0 l.invariant.1,
      omega arith,
      l.invariant.3 ∙ members_more 126 l.invariant.1 n l.reader s k l.invariant.2 named c.read_value.new.reader got.0 got.1,
      rw c.put.ensures (holds_with k v got.0 l.invariant.1 got.2 l.fields l.invariant.4),
    )
