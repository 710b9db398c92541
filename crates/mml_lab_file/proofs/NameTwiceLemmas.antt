-- Searching for the first student whose name an earlier account has.
use Rattle.std.{proofs.lemmas.Bool.Decides.nat_tests, proofs.lemmas.List.length-map, specs.Prelude.bytes_eq, specs.List.list_any, specs.Map.lookup}
use Rattle.std.proofs.Common.{◌≡◌, ℕ, suc, ◌+◌, ◌-◌, ◌<◌, List, [], ◌∷◌, ◌++◌, length, map, None, Bool, true, false, ◌||◌, Ok, Err, refl, sym, ap, ◌∙◌, arith, string_bytes, String, Global, is_some}
use Rattle.std.proofs.Common.{true≢false, append-nil, length-append, rules, option_map, Option}
use Rattle.mml_ids.specs.{Gives.unless_fault, Search.first_from, Search.first_below}
use Rattle.mml_ids.proofs.SearchLemmas.{first_here, first_next, first_end}
use Rattle.mml_lab.specs.{declared.accounts.Account.Account as KeptAccount, Rosters.Account, Rosters.has_name, AccountView.account_view, AccountView.entry_account}
use Rattle.mml_lab_file.specs.Reading.{is_name_again, name_twice}
use Rattle.mml_lab.proofs.StudentNamedLemmas.{Entry}
use Rattle.std.proofs.lemmas.List.{map-append, get_or_at, take_at, nil_from_length}
use Rattle.mml_lab_file.proofs.RawLemmas.{some_lookup}
use Rattle.mml_lab.specs.declared.lab_fault.LabFault.TheVariants as fault

-- the name is the teacher's, or that of a student in the map
abbrev pub is_taken : List ℕ → List Entry → List ℕ → Bool
is_taken teacher es name = bytes_eq name teacher || is_some (lookup (λ k. bytes_eq name (string_bytes k)) es)

-- if the map has the students before x, `is_taken` of x's name has the result of `is_name_again` on all accounts
pub taken_at : (teacher : KeptAccount) (all done rest : List KeptAccount) (x : KeptAccount) (es : List Entry) (t name : List ℕ) (r b : Bool)
    → done ++ x ∷ rest ≡ all → map entry_account es ≡ map account_view done → t ≡ string_bytes teacher.name → name ≡ string_bytes x.name
    → r ≡ is_taken t es name → r ≡ b → is_name_again (account_view teacher ∷ map account_view all) (length done + 1) ≡ b
taken_at teacher all done rest x es t name r b parts seen same_teacher same is at =
    let accounts : map account_view all ≡ map account_view done ++ account_view x ∷ map account_view rest =
    ap (map account_view) (sym parts) ∙ map-append account_view done (x ∷ rest) in
    let index : length done + 1 ≡ suc (length (map account_view done)) = omega (arith, length-map done account_view) in
    let here : is_name_again (account_view teacher ∷ map account_view all) (length done + 1)
    ≡ (bytes_eq (string_bytes x.name) (string_bytes teacher.name) || list_any (has_name (string_bytes x.name)) (map account_view done)) =
    rw (accounts, index) (grind (arith, get_or_at, take_at, account_view teacher, map account_view done, account_view x, map account_view rest)) in
    grind (arith, nat_tests, some_lookup)

-- a search that skips the teacher's account finds the same, since no account is before the teacher's
pub teacher_first : (accounts : List Account) → 0 < length accounts
    → first_from (is_name_again accounts) 1 (length accounts - 1) ≡ first_below (is_name_again accounts) (length accounts)
teacher_first accounts some = first_next (is_name_again accounts) 0 (length accounts) some refl ∙ ap (first_from (is_name_again accounts) 0) (omega arith)

pub next_at : (accounts : List Account) (k j : ℕ) → j ≡ k + 1 → k < length accounts → is_name_again accounts k ≡ false
    → first_from (is_name_again accounts) k (length accounts - k) ≡ first_below (is_name_again accounts) (length accounts)
    → first_from (is_name_again accounts) j (length accounts - j) ≡ first_below (is_name_again accounts) (length accounts)
next_at accounts k j e lt fresh so_far = rw e (first_next (is_name_again accounts) k (length accounts) lt fresh ∙ so_far)

pub is_within : (teacher : Account) (all done rest : List KeptAccount) (x : KeptAccount) → done ++ x ∷ rest ≡ all → length done + 1 < length (teacher ∷ map account_view all)
is_within teacher all done rest x parts = let whole = ap length parts in omega (arith, length-map all account_view, length-append done (x ∷ rest))

-- if a name isn't taken, the map has no entry for it
pub absent : (teacher : List ℕ) (es : List Entry) (name : List ℕ) (k : String Global) (r : Bool) → string_bytes k ≡ name → r ≡ is_taken teacher es name
    → r ≡ false → lookup (λ q. bytes_eq (string_bytes k) (string_bytes q)) es ≡ None
absent teacher es name k r same is at = rw same (grind (arith, true≢false))

pub one_more : (done : List KeptAccount) (x : KeptAccount) (es new : List Entry) (n v : String Global) → map entry_account es ≡ map account_view done
    → new ≡ es ++ (n, v) ∷ [] → entry_account (n, v) ≡ account_view x → map entry_account new ≡ map account_view (done ++ x ∷ [])
one_more done x es new n v seen more last = grind (arith, map-append)

-- the map has the students so far, and no account up to them has the name of an earlier one
pub record IsSoFar (teacher : KeptAccount) (all done : List KeptAccount) (es : List Entry) : Type 0 where
  pub seen : map entry_account es ≡ map account_view done
  pub none : first_from (is_name_again (account_view teacher ∷ map account_view all)) (length done + 1)
      (length (account_view teacher ∷ map account_view all) - (length done + 1))
      ≡ first_below (is_name_again (account_view teacher ∷ map account_view all)) (length (account_view teacher ∷ map account_view all))

-- before the first student, `IsSoFar` holds of an empty map
pub at_start : (teacher : KeptAccount) (all : List KeptAccount) (es : List Entry) → es ≡ [] → IsSoFar teacher all [] es
at_start teacher all es empty = grind (arith, teacher_first)

module _ (teacher : KeptAccount) (all done rest : List KeptAccount) (x : KeptAccount) (es : List Entry) (t name : List ℕ) (r : Bool) where
  pub at_fault : (n : ℕ) → IsSoFar teacher all done es → done ++ x ∷ rest ≡ all → n ≡ length es → t ≡ string_bytes teacher.name → name ≡ string_bytes x.name
      → r ≡ is_taken t es name → r ≡ true
      → unless_fault (name_twice (account_view teacher ∷ map account_view all)) (map account_view all) ≡ Err (fault.NameTwice (n + 1))
  at_fault n so_far parts count same_teacher same is at =
      let again : is_name_again (account_view teacher ∷ map account_view all) (length done + 1) ≡ true =
      taken_at teacher all done rest x es t name r true parts so_far.seen same_teacher same is at in
      let index : n + 1 ≡ length done + 1 = omega (arith, ap length so_far.seen, length-map es entry_account, length-map done account_view) in
      let first = sym so_far.none ∙ first_here (is_name_again (account_view teacher ∷ map account_view all)) (length done + 1) _
      (is_within (account_view teacher) all done rest x parts) again in
      rw index (ap (λ (o : Option ℕ). unless_fault (option_map fault.NameTwice o) (map account_view all)) first)

  pub at_next : (new : List Entry) → IsSoFar teacher all done es → done ++ x ∷ rest ≡ all → new ≡ es ++ (x.name, x.key) ∷ [] → t ≡ string_bytes teacher.name
      → name ≡ string_bytes x.name → r ≡ is_taken t es name → r ≡ false → IsSoFar teacher all (done ++ x ∷ []) new
  at_next new so_far parts more same_teacher same is at = search (rules, taken_at, one_more, next_at, length-append, is_within)

-- after the last student, no name occurs twice, and the map has all students
pub at_end : (teacher : KeptAccount) (all done rest : List KeptAccount) (es : List Entry) → IsSoFar teacher all done es → done ++ rest ≡ all → length rest ≡ 0
    → unless_fault (name_twice (account_view teacher ∷ map account_view all)) (map account_view all) ≡ Ok (map entry_account es)
at_end teacher all done rest es so_far parts nothing = grind (arith, append-nil, nil_from_length, length-map, first_end)
