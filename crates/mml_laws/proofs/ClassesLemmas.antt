-- The contract of a host, which serves a class, implies what the laws about houses, about scripts and about records
-- assume. A house is one run of a lab that threads share.
use Rattle.std.proofs.lemmas.{Bool.Decides.nat_tests, List.length-map, List.FromFn.length-range_with_len, List.Sums.sum_by-cons, Slice.Zip.AllZip-long}
use Rattle.std.proofs.Common.{◌≡◌, ◌<◌, ◌≤◌, ◌+◌, ◌-◌, ℕ, zero, suc, true, false, List, [], ◌∷◌, ◌++◌, map, length, Option, Some, is_some, refl, sym, ap, ◌∙◌, arith}
use Rattle.std.specs.{List.AllByRecursion, List.AllZip, List.range_with_len, List.sum_by}
use Rattle.mml_lab.specs.Labs.{LabValue, IsLab}
use Rattle.mml_board.specs.declared.event.Event.{Event}
use Rattle.mml_lines.{specs.Runs.Runs, specs.Runs.Chain, proofs.RunsLemmas.by_steps}
use Rattle.mml_codec.specs.declared.reply.Reply.{Reply}
use Rattle.mml_window.specs.{Logs.IsLogFrom, Tallies.IsEachOnceFrom, Windows.WindowValue, Windows.window}
use Rattle.mml_session.specs.Records.{Kept, Stand, stand}
use Rattle.mml_serving.specs.Serving.{Each}
use Rattle.mml_hosting.specs.declared.{hosted.Hosted.Hosted, seat.SeatRecord.SeatRecord, seat.ServedSession.ServedSession}
use Rattle.mml_hosting.specs.{Hosting.HostsFrom, Ports.numbers_of, Seats.Led, Seats.Leads, Seats.Terms, Seats.terms, Seats.kept_from, Seats.sessions_of}
use Rattle.mml_record.{specs.RecordedSeats.Held, specs.RecordedSeats.IsResumedSeat, specs.RecordedSeats.IsFinalText, specs.RecordedSeats.fresh, proofs.TextLemmas.are_final}
use Rattle.mml_laws.specs.{Classes.seat_of, Classes.seats_of, ClassAnswers.HasAnswers, ClassAnswers.HaveAnswers, OneScript.IsOneScript}
use Rattle.mml_laws.specs.Served.{Answered, answers_in, AreConversations, AreHeard, AreWritten, AreServed, replies_of, named_by}
use Rattle.mml_laws.proofs.{ZipsLemmas.zip_append, ServedLemmas.house_once, ServedLemmas.house_written, OneScriptLemmas.one_script}

module _ {K C R W : Type 0} (t : Terms K C R W) where
  -- ---- what the sessions of a house answered

  seat_heard : (n : ℕ) (ss : List (ServedSession R W)) (a b : Stand) → Chain (Leads t n) a ss b
      → (saids : List (List Answered)) × Runs (HasAnswers t) a.window ss saids b.window
  seat_heard n [] a b led = ([], ap (λ (s : Stand). s.window) led)
  seat_heard n (s ∷ ss) a b led =
      let rest = seat_heard n ss led.0 b led.2 in
      (answers_in s.ending.end t.lab a.window led.0.window _ _ _ _ led.1.0 ∷ rest.0, (led.0.window, record { ended = led.1.0; all = refl }, rest.1))

  conversations : (a b : WindowValue) (ss : List (ServedSession R W)) (saids : List (List Answered)) → Runs (HasAnswers t) a ss saids b
      → AreConversations t.lab a saids b
  conversations =
      by_steps (HasAnswers t) (λ a ss saids b. AreConversations t.lab a saids b) (λ a. refl)
      (λ a next b s said ss saids one rest. (next, record { end = _; input = _; left = _; wrote = _; wrote' = _; says = one }, rest))

  house_heard : (rs : List (SeatRecord K C)) (ws : List WindowValue) → AllZip (Led t) rs ws
      → (seats : List (List (List Answered))) × Each (HaveAnswers t) rs seats ws × AreHeard t.lab t.begun seats ws
  house_heard [] [] led = ([], tt, tt)
  house_heard (r ∷ rs) (w ∷ ws) led =
      let one = seat_heard r.number (sessions_of t.shows r) (stand (window t.begun []) (t.given r.number)) (stand w (t.recorded r.observer)) led.0 in
      let rest = house_heard rs ws led.1 in
      (one.0 ∷ rest.0, (one.1, rest.1), (conversations _ _ _ _ one.1, rest.2))
  house_heard _ _ led = absurd led

  -- ---- the seats of a record

  -- the sessions of a seat are those of a recorded seat (`Held`). If contracts can name what the seat's recorder has kept
  -- before them, they can name it afterwards
  held : (n : ℕ) (ss : List (ServedSession R W)) (a b : Stand) → Chain (Leads t n) a ss b
      → Chain (Held t.lab n) a (map (λ s. s.ending.end) ss) b × (is_some a.kept ≡ true → is_some b.kept ≡ true)
  held n [] a b led = (led, λ some. ap (λ (s : Stand). is_some s.kept) led ∙ some)
  held n (s ∷ ss) a b led =
      let rest = held n ss led.0 b led.2 in
      let one : Held t.lab n s.ending.end a led.0 = record { who = _; input = _; left = _; wrote = _; wrote' = _; ended = led.1 } in
      ((led.0, one, rest.0), λ some. rest.1 (grind (arith, nat_tests, led.1.2, a.kept, led.0.kept)))

-- ---- the numbers of the seats

-- 0 for a number from 1 to `most`, otherwise more
abbrev out_of : ℕ → ℕ → ℕ
out_of most n = (1 - n) + (n - most)

range_within : (most a k : ℕ) → 0 < a → a + k ≤ most + 1 → sum_by (out_of most) (range_with_len a k) ≡ 0
range_within most a zero some le = refl
range_within most a (suc k) some le =
    omega (arith, sum_by-cons (out_of most) a (range_with_len (a + 1) k), range_within most (a + 1) k (omega arith) (omega arith))

sum_of_ones : {A : Type 0} (xs : List A) → sum_by (λ x. 1) xs ≡ length xs
sum_of_ones [] = refl
sum_of_ones (x ∷ xs) = omega (arith, sum_by-cons (λ y. 1) x xs, sum_of_ones xs)

module _ {K C R W : Type 0} (t : Terms K C R W) (most : ℕ) (empty : (n : ℕ) → 0 < n → n ≤ most → t.given n ≡ Some fresh) where
  resumed_seats : (rs : List (SeatRecord K C)) (ws : List WindowValue) → sum_by (out_of most) (numbers_of rs) ≡ 0 → AllZip (Led t) rs ws
      → AllZip (IsResumedSeat t.lab t.begun) (map (seat_of t.recorded t.shows) rs) ws
  resumed_seats [] [] none led = tt
  resumed_seats (r ∷ rs) (w ∷ ws) none led =
      let sum = sum_by-cons (out_of most) r.number (numbers_of rs) in
      let given = empty r.number (omega (arith, sum, none)) (omega (arith, sum, none)) in
      let seat = held t r.number (sessions_of t.shows r) (stand (window t.begun []) (t.given r.number)) (stand w (t.recorded r.observer)) led.0 in
      (grind (arith, nat_tests, given, seat), resumed_seats rs ws (omega (arith, sum, none)) led.1)
  resumed_seats _ _ none led = absurd led

-- ---- classes

module _ {S K C R W : Type 0} (begun : List Event) (given : ℕ → Option Kept) (lab : LabValue) (sink : S → Option (List ℕ)) (remaining : R → Option (List ℕ))
    (contents : W → Option (List ℕ)) (recorded : C → Option Kept) (shows : K → ServedSession R W) (to_desk to_come : Option (List (R × W))) (house : Hosted S K C)
    (h : HostsFrom begun given lab sink remaining contents recorded shows to_desk to_come house) where
  all_led : AllZip (Led (terms lab begun given remaining contents recorded shows)) (house.at_desk.items ++ house.others.items) (h.desk_windows ++ h.windows)
  all_led = grind (arith, nat_tests, zip_append)

  window_count : length (h.desk_windows ++ h.windows) ≡ lab.sessions
  window_count =
      AllZip-long _ _ _ all_led ∙ sym (length-map (house.at_desk.items ++ house.others.items) (λ r. r.number)) ∙ sym (sum_of_ones _)
      ∙ sym (h.numbers (λ n. 1)) ∙ sum_of_ones (range_with_len 1 lab.sessions) ∙ length-range_with_len 1 lab.sessions

  -- lists of what the sessions of each seat answered, of which `Holds` is true
  abbrev Answering : (List (List (List Answered)) → Type 0) → Type 0
  Answering Holds =
      (seats : List (List (List Answered)))
      × Each (HaveAnswers (terms lab begun given remaining contents recorded shows)) (house.at_desk.items ++ house.others.items) seats (h.desk_windows ++ h.windows)
      × Holds seats

  class_heard : Answering (λ seats. AreHeard lab begun seats (h.desk_windows ++ h.windows))
  class_heard = house_heard (terms lab begun given remaining contents recorded shows) _ _ all_led

  pub class_house : (sessions : List (List (List Reply))) × AreServed lab begun sessions (h.desk_windows ++ h.windows)
      × IsLogFrom (length begun) lab sink (h.desk_windows ++ h.windows) house.log
      × IsEachOnceFrom (length begun) (length house.log.events) (named_by sessions)
  class_house =
      let served : AreServed lab begun (map replies_of class_heard.0) (h.desk_windows ++ h.windows) = (class_heard.0, class_heard.2, refl) in
      (map replies_of class_heard.0, served, h.kept, house_once lab begun (length house.log.events) _ _ served h.kept.places)

  written_script : IsLab lab → AllByRecursion AreWritten class_heard.0 → IsOneScript lab begun house.log.events class_heard.0
  written_script is_lab written = grind (arith, nat_tests, one_script, class_heard, window_count)

  pub class_script : IsLab lab → Answering (λ seats. AllByRecursion AreWritten seats → IsOneScript lab begun house.log.events seats)
  class_script is_lab = (class_heard.0, class_heard.1, written_script is_lab)

  pub unhalted_class : IsLab lab → house.log.halted ≡ false → Answering (IsOneScript lab begun house.log.events)
  unhalted_class is_lab going = grind (arith, nat_tests, house_written, class_heard, written_script)

  pub class_seats : ((n : ℕ) → 0 < n → n ≤ lab.sessions → given n ≡ Some fresh)
      → AllZip (IsResumedSeat lab begun) (seats_of recorded shows house) (h.desk_windows ++ h.windows)
      × AllZip (λ p w. IsFinalText lab house.log.events p.number p.kept w.places) (seats_of recorded shows house) (h.desk_windows ++ h.windows)
  class_seats empty =
      let none : sum_by (out_of lab.sessions) (numbers_of (house.at_desk.items ++ house.others.items)) ≡ 0 =
      sym (h.numbers (out_of lab.sessions)) ∙ range_within lab.sessions 1 lab.sessions (omega arith) (omega arith) in
      let seats = resumed_seats (terms lab begun given remaining contents recorded shows) lab.sessions empty _ _ none all_led in
      (seats, are_final lab house.log.events begun _ _ h.kept.book.few h.kept.seen (h.kept.last window_count) seats)

pub kept_fresh : {C : Type 0} (recorded : C → Option Kept) (cs : List C) (first n : ℕ) → AllByRecursion (λ c. recorded c ≡ Some fresh) cs → first ≤ n
    → n < first + length cs → kept_from recorded first cs n ≡ Some fresh
kept_fresh recorded [] first n each some within = absurd (omega arith)
kept_fresh recorded (c ∷ cs) first n each some within = grind (arith, nat_tests, each.0, kept_fresh recorded cs (first + 1) n each.1)
