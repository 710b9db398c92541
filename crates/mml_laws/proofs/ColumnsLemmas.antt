-- The request lines of all seats of a class, one seat after another.
use Rattle.std.proofs.Common.{ℕ, suc, true, None, List, [], ◌∷◌, ◌++◌, length, refl, sym, subst}
use Rattle.mml_lab.specs.Labs.{LabValue}
use Rattle.mml_board.specs.declared.event.Event.{Event}
use Rattle.mml_tally.specs.{declared.ask.Ask.Ask, AskMeaning.AreAsksOf, StudentDenials.AreNamed}
use Rattle.mml_record.specs.{declared.kept_entry.Entry.Entry, Asks.asks_in, Certified.IsRecordOf, Certified.first_stage}
use Rattle.mml_record.proofs.{AsksLemmas.asked_of_rules, AskersLemmas.are_asks_of, NamedAskersLemmas.record_named}
use Rattle.mml_class.specs.{declared.class_record.ClassRecord.ClassRecord, Classes.AreRecordsOf, Classes.IsClassRecord, Classes.all_asks}

named_after : (xs ys : List Ask) → AreNamed xs → AreNamed ys → AreNamed (xs ++ ys)
named_after [] ys h k = k
named_after (x ∷ xs) ys h k = (h.0, named_after xs ys h.1 k)

asks_after : (n : ℕ) (xs ys : List Ask) → AreAsksOf n xs → AreAsksOf n ys → AreAsksOf n (xs ++ ys)
asks_after n [] ys h k = k
asks_after n (x ∷ xs) ys h k = (h.0, asks_after n xs ys h.1 k)

-- what holds for the request lines of no seat, of two lists of lines together, and of each record, holds for those of a
-- class
module _ (lab : LabValue) (l : List Event) (texts : ℕ → List ℕ) (Are : List Ask → Type 0) (none : Are [])
    (after : (xs ys : List Ask) → Are xs → Are ys → Are (xs ++ ys)) (each : (es : List Entry) (own : List ℕ) → IsRecordOf lab l es own → Are (asks_in lab.roster es))
  where
    all_are : (first : ℕ) (ess : List (List Entry)) (places : List ℕ) → AreRecordsOf lab l texts first ess places → Are (all_asks lab.roster ess)
    all_are first [] places h = none
    all_are first (es ∷ ess) places h = after (asks_in lab.roster es) (all_asks lab.roster ess) (each es h.0 h.3) (all_are (suc first) ess h.1 h.5)

    class_are : (start : List ℕ) (c : ClassRecord) → IsClassRecord lab l true start texts c → Are c.asks.items
    class_are start c is = subst Are (sym (is.asked refl)) (all_are 1 is.entries is.places is.records)

module _ (lab : LabValue) (l : List Event) (start : List ℕ) (texts : ℕ → List ℕ) where
  -- each denied line of a class is counted under the clause of its denial
  pub class_named : (c : ClassRecord) → IsClassRecord lab l true start texts c → AreNamed c.asks.items
  class_named = class_are lab l texts AreNamed tt named_after (record_named lab l) start

  pub class_of_students : (c : ClassRecord) → IsClassRecord lab l true start texts c → AreAsksOf (length lab.roster.students) c.asks.items
  class_of_students =
      class_are lab l texts (AreAsksOf (length lab.roster.students)) tt (asks_after (length lab.roster.students))
      (λ es own h. are_asks_of lab l None tt es (asks_in lab.roster es) (asked_of_rules lab l None first_stage 0 es own h)) start
