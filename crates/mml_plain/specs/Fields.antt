-- The fields of a request, and how one more member of the object changes them.
use Rattle.std.specs.{Prelude.ℕ, Prelude.List, Prelude.Bool, Prelude.codes, Prelude.bytes_eq, Prelude.if◌then◌else◌, Prelude.Option, Prelude.Some, Prelude.None, Borrow.Bor}
use Rattle.mml_plain.specs.declared.member_value.MemberValue.{MemberValue, TheVariants.Null, TheVariants.Truth, TheVariants.Number, TheVariants.Text, TheVariants.Other}
use Rattle.mml_plain.specs.declared.fields.Fields.{Fields}

-- the value's text, or None if the value isn't a text
abbrev pub text_in : MemberValue → Option (Bor (List ℕ))
text_in Null = None
text_in (Truth b) = None
text_in (Number n) = None
text_in (Text s) = Some s
text_in Other = None

-- the value's number, or None if the value isn't a number of 64 bits
abbrev pub number_in : MemberValue → Option ℕ
number_in Null = None
number_in (Truth b) = None
number_in (Number n) = Some n
number_in (Text s) = None
number_in Other = None

-- the value's truth value, or None if the value isn't `true` or `false`
abbrev pub truth_in : MemberValue → Option Bool
truth_in Null = None
truth_in (Truth b) = Some b
truth_in (Number n) = None
truth_in (Text s) = None
truth_in Other = None

-- what a value sets a register to: Some None for null, and None if the value is neither null nor a number of 64 bits
abbrev pub register_in : MemberValue → Option (Option ℕ)
register_in Null = Some None
register_in (Truth b) = None
register_in (Number n) = Some (Some n)
register_in (Text s) = None
register_in Other = None

-- the value of the key q after a member with the key k was added: `new` if q is k, otherwise `old`
abbrev pub after : {A : Type 0} → List ℕ → A → List ℕ → A → A
after k new q old = if bytes_eq k q then new else old

-- the fields after a member with this key and this value was added
abbrev pub with : List ℕ → MemberValue → Fields → Fields
with k v f = record {
  word = after k (text_in v) (codes "do") f.word;
  name = after k (text_in v) (codes "name") f.name;
  key = after k (text_in v) (codes "key") f.key;
  node = after k (number_in v) (codes "node") f.node;
  rule = after k (text_in v) (codes "rule") f.rule;
  with = after k (number_in v) (codes "with") f.with;
  at = after k (number_in v) (codes "at") f.at;
  p = after k (register_in v) (codes "p") f.p;
  m = after k (truth_in v) (codes "m") f.m;
  a = after k (number_in v) (codes "a") f.a;
  b = after k (number_in v) (codes "b") f.b;
}
