-- How the value of a member represents a JSON value.
use Rattle.std.specs.Prelude.{◌≡◌, option_map, option_and_then}
use Rattle.serde_json.specs.{Data.Data, Find.as_str, Find.as_bool, Find.as_number, Find.as_u64}
use Rattle.mml_plain.specs.{declared.member_value.MemberValue.MemberValue, LookUps.as_register, Fields.text_in, Fields.number_in, Fields.truth_in, Fields.register_in}

-- `v` and the JSON value `d` have the same text, number, truth value and register, or both have none
pub record Shows (v : MemberValue) (d : Data) : Type 0 where
  pub text : option_map (λ s. s.now) (text_in v) ≡ as_str d
  pub number : number_in v ≡ option_and_then as_u64 (as_number d)
  pub truth : truth_in v ≡ as_bool d
  pub register : register_in v ≡ as_register d
