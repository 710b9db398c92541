-- The error that is reported for a lab file is the first one in the order of `order_of`.
use Rattle.std.proofs.lemmas.Bool.{Decides.nat_tests, cases_lt, lt-ltb, le-ltb, lt-leb, le-leb}
use Rattle.std.proofs.Common.{◌≡◌, ◌<◌, ◌+◌, ℕ, suc, List, [], ◌∷◌, Option, Some, None, Result, option_map, sym, ◌∙◌, subst, arith, Bool, not}
use Rattle.std.specs.List.{slice_get}
use Rattle.mml_ids.specs.Gives.{◌>>◌, first_fault, need, fault_if}
use Rattle.mml_lab.specs.declared.lab_fault.LabFault.{LabFault}
use Rattle.mml_lab_file.specs.{Shape.RawSpec, LabErrors.order_of, LabErrors.errors_of, LabErrors.IsFirstError}
use Rattle.mml_lab_file.specs.Reading.{both_fault, ids_fault, forms_fault, no_owner_fault, owner_twice_fault, ends_fault, loops_fault, again_fault, pointers_fault, pass_unless, identified, enrolled}
use Rattle.mml_lab_file.specs.Reading.{owned, linked, limited, checked, error_of, lab_fault}

-- the first error in the list, if there is one
abbrev pub first_of : List (Option LabFault) → Option LabFault
first_of [] = None
first_of (t ∷ ts) = first_fault t (first_of ts)

-- ---- the index of each error in the order

abbrev HasOrder : ℕ → Option LabFault → Type 0
HasOrder n t = (f : LabFault) → t ≡ Some f → order_of f ≡ n

mapped : {A : Type 0} (n : ℕ) (make : A → LabFault) (o : Option A) → ((x : A) → order_of (make x) ≡ n) → HasOrder n (option_map make o)
mapped n make o each f h = grind arith

abbrev HaveOrder : ℕ → List (Option LabFault) → Type 0
HaveOrder n [] = Unit {0}
HaveOrder n (t ∷ ts) = HasOrder n t × HaveOrder (n + 1) ts

have_order : (raw : RawSpec) → HaveOrder 0 (errors_of raw)
unfolding both_fault ids_fault forms_fault no_owner_fault owner_twice_fault ends_fault loops_fault again_fault pointers_fault
have_order raw = grind (arith, nat_tests, mapped)

-- ---- the first error

record IsFirstIn (n : ℕ) (ts : List (Option LabFault)) (f : LabFault) : Type 0 where
  at : ℕ
  order : order_of f ≡ n + at
  here : slice_get ts at ≡ Some (Some f)
  before : (k : ℕ) → k < at → slice_get ts k ≡ Some None

first_in : (n : ℕ) (ts : List (Option LabFault)) (f : LabFault) → HaveOrder n ts → first_of ts ≡ Some f → IsFirstIn n ts f
first_in n [] f have h = absurd cc
first_in n (Some e ∷ ts) f have h = grind arith
first_in n (None ∷ ts) f have h =
    let rest = first_in (n + 1) ts f have.1 h in
    let before = rest.before in
    record { at = suc rest.at; order = rest.order ∙ (omega arith); here = rest.here; before = λ k lt. grind (arith, before) }

-- the error of two tests in order is the first of their errors
passes_first : (t : Option LabFault) (s : Result (Unit {0}) LabFault) → error_of (pass_unless t >> s) ≡ first_fault t (error_of s)
passes_first t s = grind arith

needs_first : (b : Bool) (e : LabFault) (s : Result (Unit {0}) LabFault) → error_of (need b e >> s) ≡ first_fault (fault_if (not b) e) (error_of s)
needs_first b e s = grind arith

-- three tests in order have the same result however they are grouped
grouped : (r s t : Result (Unit {0}) LabFault) → ((r >> s) >> t) ≡ (r >> (s >> t))
grouped r s t = grind arith

last_of_all : (b c : Bool) (e : LabFault) → not b ≡ c → error_of (need b e) ≡ first_fault (fault_if c e) None
last_of_all b c e same = grind arith

-- the error that the tests of a file report is the first one in `errors_of`
pub first_error : (raw : RawSpec) → lab_fault raw ≡ first_of (errors_of raw)
unfolding checked identified enrolled owned linked limited
first_error raw = rw (grouped, grouped, grouped, grouped, grouped)
    (grind (arith, nat_tests, passes_first, needs_first, last_of_all, cases_lt, lt-ltb, lt-leb, le-ltb, le-leb))

-- no other error of the file comes before the reported one in the order
pub told_in_order : (raw : RawSpec) (f : LabFault) → lab_fault raw ≡ Some f → IsFirstError raw f
told_in_order raw f h =
    let first = first_in 0 (errors_of raw) f (have_order raw) (sym (first_error raw) ∙ h) in
    let at : first.at ≡ order_of f = omega (arith, first.order) in record {
      here = subst (λ k. slice_get (errors_of raw) k ≡ Some (Some f)) at first.here;
      before = λ k lt. first.before k (omega (arith, lt, at));
    }
