-- What `verify` and `tally` have written about a class.
use Rattle.std.proofs.{lemmas.Bool.Decides.nat_tests, Common.◌≡◌, Common.◌<◌, Common.ℕ, Common.List, Common.length, Common.take, Common.Option, Common.Result, Common.arith}
use Rattle.std.specs.{Prelude.OnOk, Prelude.IfOk, Prelude.IfErr, Io.KnownBytes.Appends}
use Rattle.mml_host_program.specs.{declared.judging.class_error.ClassError.ClassError, Judging.IsWritten, Judging.IsUnwritten}
use Rattle.mml_host_program.specs.declared.judging.class_error.ClassError.TheVariants as error

pub weaker_ok : {X E : Type 0} (r : Result X E) (P Q : X → Type 0) → ((x : X) → P x → Q x) → IfOk r P → IfOk r Q
weaker_ok r P Q weaker holds = grind (arith, nat_tests)

module _ (U : ClassError → Type 0) (P : List ℕ → Type 0) (wrote wrote' : Option (List ℕ)) where
  -- if a text for which P is true was written, `IsWritten` is true; if only a beginning of it was, `IsUnwritten` is
  pub all_written : (r : Result (Unit {0}) ClassError) (text now : List ℕ) → P text → now ≡ text → OnOk r (Appends wrote wrote' now) → OnOk r (IsWritten P wrote wrote')
  all_written r text now holds same all = grind (arith, nat_tests)

  pub part_written : (r : Result (Unit {0}) ClassError) (text now : List ℕ) → P text → now ≡ text
      → IfErr r (λ e. (e ≡ error.Write) × ((n : ℕ) × (n < length now) × Appends wrote wrote' (take n now)))
      → IfErr r (IsUnwritten U P wrote wrote')
  part_written r text now holds same part = grind (arith, nat_tests)

  -- if nothing was written, and U is true of the reason, `IsUnwritten` is true
  pub none_written : ¬ (U error.Write) → (e : ClassError) → wrote' ≡ wrote → U e → IsUnwritten U P wrote wrote' e
  none_written never e same untold = grind (arith, nat_tests)
