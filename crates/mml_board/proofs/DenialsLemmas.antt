-- To whom an act may be granted, and which denials it may have.
use Rattle.std.{proofs.lemmas.Bool.Decides.nat_tests, proofs.lemmas.Bool.eq-eqb, specs.Prelude.◌||◌, specs.Option.ok_or, specs.Result.IfOk, specs.Result.IfErr}
use Rattle.std.proofs.Common.{◌≡◌, ◌⊎◌, ℕ, Bool, true, ◌==◌, Option, Err, refl, arith}
use Rattle.mml_ids.proofs.GivesLemmas.{bind-if, need-if, bind-deny, need-deny}
use Rattle.mml_rules.specs.declared.rule.Rule.{Rule}
use Rattle.mml_lab.specs.declared.who.Who.{Who}
use Rattle.mml_board.specs.{declared.act.Act.Act, declared.denial.Denial.Denial, World.World, Clauses.check, Clauses.student, Clauses.pointer, Clauses.is_teacher, Denials.clause_of}
use Rattle.mml_board.specs.declared.denial.Denial.TheVariants as denial

-- a denial with a clause number from 1 to 4; if it names a configuration, this is the current one
abbrev pub is_of_act : World → Denial → Bool
is_of_act w (denial.Stale at) = at == w.number
is_of_act w d = clause_of d == 1 || (clause_of d == 2 || (clause_of d == 3 || clause_of d == 4))

module _ (P : Denial → Type 0) where
  -- if a look-up finds nothing, its error is the denial that it was called with
  pub of_err : {A : Type 0} (o : Option A) (d : Denial) → P d → (e : Denial) → ok_or o d ≡ Err e → P e
  of_err o d meets e h = grind (arith, nat_tests)

  student_err : (x : Who) (d : Denial) → P d → (e : Denial) → student x d ≡ Err e → P e
  student_err x d meets e h = grind (arith, nat_tests)

  pointer_err : (p : Option (Option ℕ)) (d : Denial) → P d → (e : Denial) → pointer p d ≡ Err e → P e
  pointer_err p d meets e h = grind (arith, nat_tests)

module _ (owned : Who → ℕ → Bool) (w : World) (x : Who) where
  -- the asker is the teacher, or owns some node
  abbrev pub HasRight : Type 0
  HasRight = (is_teacher x ≡ true) ⊎ ((i : ℕ) × (owned x i ≡ true))

  -- if an act is granted, its asker is the teacher, or owns some node
  pub by_right : (a : Act) → IfOk (check owned w x a) (λ e. HasRight)
  by_right a = grind (arith, nat_tests, bind-if, need-if)

  abbrev D : Denial → Type 0
  D d = is_of_act w d ≡ true

  -- each denial of an act has a clause number from 1 to 4, and can name only the current configuration
  pub denied_of_act : (a : Act) → IfErr (check owned w x a) D
  denied_of_act a =
      grind (arith, nat_tests, bind-deny, need-deny, of_err D {A = ℕ}, of_err D {A = Rule}, student_err D, pointer_err D, eq-eqb w.number w.number refl)
