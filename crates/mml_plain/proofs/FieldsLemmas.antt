-- Adding a member has the same effect on the fields as on the object.
use Rattle.std.proofs.Common.{◌≡◌, ℕ, List, Bool, false, codes, bytes_eq, Bor, Option, Some, option_map, option_and_then, true≢false, sym, ◌∙◌, arith}
use Rattle.std.proofs.lemmas.Slice.Eq.{bytes_eq-Decides}
use Rattle.serde_json.specs.{Data.Data, Data.object, Data.Members, Data.put, Find.get_member, Find.as_str, Find.as_bool, Find.as_number, Find.as_u64}
use Rattle.serde_json.proofs.Views.{get_member-put, get_member-put_other}
use Rattle.mml_plain.specs.{declared.member_value.MemberValue.MemberValue, declared.fields.Fields.Fields, LookUps.as_register, Holds.Holds, Shown.Shows}
use Rattle.mml_plain.specs.Fields.{text_in, number_in, truth_in, register_in, with, after}

differ : (k q : List ℕ) → bytes_eq k q ≡ false → q ≡ k → ⊥
differ k q e same = true≢false (sym ((bytes_eq-Decides k q).1 (sym same)) ∙ e)

-- if a field has the value of its key q before a member is added, it has this key's value afterwards, too
module _ {A B : Type 0} (see : A → B) (find : Option Data → B) (k : List ℕ) (d : Data) (ms : Members) (new : A) (shown : see new ≡ find (Some d)) where
  pub seen : (q : List ℕ) (old : A) → see old ≡ find (get_member q ms) → see (after k new q old) ≡ find (get_member q (put k d ms))
  seen q old h = grind (arith, bytes_eq-Decides, get_member-put, get_member-put_other, differ)

module _ (k : List ℕ) (v : MemberValue) (d : Data) (ms : Members) (shows : Shows v d) where
  text : (q : List ℕ) (old : Option (Bor (List ℕ))) → option_map (λ s. s.now) old ≡ option_and_then as_str (get_member q ms)
      → option_map (λ s. s.now) (after k (text_in v) q old) ≡ option_and_then as_str (get_member q (put k d ms))
  text = seen (λ o. option_map (λ s. s.now) o) (option_and_then as_str) k d ms (text_in v) shows.text

  number : (q : List ℕ) (old : Option ℕ) → old ≡ option_and_then (λ d. option_and_then as_u64 (as_number d)) (get_member q ms)
      → after k (number_in v) q old ≡ option_and_then (λ d. option_and_then as_u64 (as_number d)) (get_member q (put k d ms))
  number = seen (λ o. o) (option_and_then (λ d. option_and_then as_u64 (as_number d))) k d ms (number_in v) shows.number

  truth : (q : List ℕ) (old : Option Bool) → old ≡ option_and_then as_bool (get_member q ms)
      → after k (truth_in v) q old ≡ option_and_then as_bool (get_member q (put k d ms))
  truth = seen (λ o. o) (option_and_then as_bool) k d ms (truth_in v) shows.truth

  register : (q : List ℕ) (old : Option (Option ℕ)) → old ≡ option_and_then as_register (get_member q ms)
      → after k (register_in v) q old ≡ option_and_then as_register (get_member q (put k d ms))
  register = seen (λ o. o) (option_and_then as_register) k d ms (register_in v) shows.register

  pub holds_with : (f : Fields) → Holds f (object ms) → Holds (with k v f) (object (put k d ms))
  holds_with f h = grind (arith, text, codes, number, register, truth)
