-- The fields that have the values of a JSON object.
use Rattle.std.specs.Prelude.{◌≡◌, codes, option_map}
use Rattle.serde_json.specs.Data.{Data}
use Rattle.mml_plain.specs.{LookUps.text_at, LookUps.number_at, LookUps.truth_at, LookUps.register_at, declared.fields.Fields.Fields}

-- each field has the value of its key in `d`, or None if `d` doesn't have the key or its value is of another kind
pub record Holds (f : Fields) (d : Data) : Type 0 where
  pub word : option_map (λ s. s.now) f.word ≡ text_at (codes "do") d
  pub name : option_map (λ s. s.now) f.name ≡ text_at (codes "name") d
  pub key : option_map (λ s. s.now) f.key ≡ text_at (codes "key") d
  pub node : f.node ≡ number_at (codes "node") d
  pub rule : option_map (λ s. s.now) f.rule ≡ text_at (codes "rule") d
  pub partner : f.with ≡ number_at (codes "with") d
  pub at : f.at ≡ number_at (codes "at") d
  pub p : f.p ≡ register_at (codes "p") d
  pub m : f.m ≡ truth_at (codes "m") d
  pub a : f.a ≡ number_at (codes "a") d
  pub b : f.b ≡ number_at (codes "b") d
