-- The records of the seats, which are read one after another.
use Rattle.std.proofs.lemmas.{Bool.Decides.nat_tests, List.Folds.list_all-append, List.Folds.list_any-append, List.Sums.sum_by_push, List.Concat.flat_map-append}
use Rattle.std.proofs.Common.{◌≡◌, ◌+◌, ◌-◌, ◌≤◌, ◌++◌, [], ◌∷◌, ◌&&◌, ◌||◌, ℕ, List, Bool, ap, subst, refl, sym, ◌∙◌, suc, zero, length, append_assoc, append-nil, length-append, Option, None, Some}
use Rattle.std.{proofs.Common.arith, specs.List.list_all, specs.List.list_any, specs.Prelude.IfSome}
use Rattle.mml_lab.specs.{Labs.LabValue}
use Rattle.mml_board.specs.declared.event.Event.{Event}
use Rattle.mml_tally.specs.{declared.ask.Ask.Ask, declared.record_text.Findings.Findings}
use Rattle.mml_record.specs.{declared.kept_entry.Entry.Entry, Halts.outlived, Certified.IsRecordOf, Asks.asks_in, Entries.record_text}
use Rattle.mml_class.specs.{declared.class_record.ClassFault.ClassFault, Classes.AreRecordsOf, Classes.AreNotOutlived, Classes.IsClassRefused}
use Rattle.mml_class.specs.inside.Seats.{AddsSeat, IsSeatRefused, AreReadSoFar}

all_push : {X : Type 0} (p : X → Bool) (xs : List X) (x : X) → list_all p (xs ++ x ∷ []) ≡ (list_all p xs && p x)
all_push p xs x = list_all-append p xs (x ∷ []) ∙ ap (λ (b : Bool). list_all p xs && b) (grind (arith, nat_tests, p x))

any_push : {X : Type 0} (p : X → Bool) (xs : List X) (x : X) → list_any p (xs ++ x ∷ []) ≡ (list_any p xs || p x)
any_push p xs x = list_any-append p xs (x ∷ []) ∙ ap (λ (b : Bool). list_any p xs || b) (grind (arith, nat_tests, p x))

-- if P holds for the bytes of a reader that was opened at the beginning of a text, P holds for the text
pub opened : (told remaining : Option (List ℕ)) (text : List ℕ) (P : List ℕ → Type 0) → told ≡ Some text → IfSome told (λ bytes. remaining ≡ Some bytes)
    → IfSome remaining P → P text
opened told remaining text P is opens holds = grind (arith, nat_tests)

module _ (lab : LabValue) (l : List Event) (texts : ℕ → List ℕ) where
  records_more : (first : ℕ) (ess : List (List Entry)) (es : List Entry) (places own : List ℕ) → AreRecordsOf lab l texts first ess places
      → IsRecordOf lab l es own → texts (first + length ess) ≡ record_text (first + length ess) es
      → AreRecordsOf lab l texts first (ess ++ es ∷ []) (places ++ own)
  records_more first [] es places own none is text =
      let here : first + 0 ≡ first = omega arith in
      (own, [], ap (λ (ps : List ℕ). ps ++ own) none ∙ sym (append-nil own), is, subst (λ (n : ℕ). texts n ≡ record_text n es) here text, refl)
  records_more first (e ∷ ess) es places own h is text =
      let there : first + suc (length ess) ≡ suc first + length ess = omega arith in
      let rest = records_more (suc first) ess es h.1 own h.5 is (subst (λ (n : ℕ). texts n ≡ record_text n es) there text) in
      (h.0, h.1 ++ own, ap (λ (ps : List ℕ). ps ++ own) h.2 ∙ append_assoc h.0 h.1 own, h.3, h.4, rest)

  lasting_more : (ess : List (List Entry)) (es : List Entry) → AreNotOutlived lab (length l) ess → outlived lab (length l) None es ≡ None
      → AreNotOutlived lab (length l) (ess ++ es ∷ [])
  lasting_more [] es h none = (none, tt)
  lasting_more (x ∷ xs) es h none = (h.0, lasting_more xs es h.1 none)

  pub next_seat : (with_asks : Bool) (n number : ℕ) (f f' : Findings) (places places' : List ℕ) (asks asks' : List Ask) → number ≡ n + 1
      → AreReadSoFar lab l with_asks texts n f places asks → AddsSeat lab l number with_asks (texts number) places places' asks asks' f f'
      → AreReadSoFar lab l with_asks texts (n + 1) f' places' asks'
  next_seat with_asks n number f f' places places' asks asks' is so add =
      let read = add.read in
      let here : number ≡ 1 + length so.entries = omega (arith, is, so.seats) in record {
        entries = so.entries ++ read.0 ∷ [];
        seats = omega (arith, length-append so.entries (read.0 ∷ []), so.seats);
        records = subst (λ (ps : List ℕ). AreRecordsOf lab l texts 1 (so.entries ++ read.0 ∷ []) ps) (sym read.5)
            (records_more 1 so.entries read.0 places read.1 so.records read.2 (subst (λ (k : ℕ). texts k ≡ record_text k read.0) here read.3));
        lasting = lasting_more so.entries read.0 so.lasting read.7;
        comes = grind (arith, nat_tests, sum_by_push, all_push, any_push);
        asked = λ wanted. read.6 wanted ∙ ap (λ (xs : List Ask). xs ++ asks_in lab.roster read.0) (so.asked wanted) ∙ sym (grind (arith, nat_tests, flat_map-append, append-nil));
      }

  -- if the text of a seat doesn't pass, or couldn't be read, the texts are no record of a class for this reason
  pub bad_seat : (with_asks : Bool) (start : List ℕ) (n number : ℕ) (f : Findings) (places : List ℕ) (asks : List Ask) (why : ClassFault) → number ≡ n + 1
      → number ≤ lab.sessions → AreReadSoFar lab l with_asks texts n f places asks → IsSeatRefused lab l number (texts number) why
      → IsClassRefused lab l start texts why
  bad_seat with_asks start n number f places asks why is few so refused = grind (arith, nat_tests)
