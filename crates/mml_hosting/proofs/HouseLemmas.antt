-- The seats of a house before and after they were served, their records, and how the house ends. A house is one run of
-- a lab that threads share. The log of a house is its result. A window is what the sessions of a seat have seen of the
-- list of events, and the places of the events that were granted to them. The desk is dismissed by the teacher's bye.
use Rattle.std.proofs.Common.{◌≡◌, ◌∙◌, ap, sym, ℕ, ◌+◌, ◌<◌, ◌≤◌, true, false, List, [], ◌∷◌, ◌++◌, flat_map, length, length-append, refl, add-one, All, Option, Result, Ok, Err, IfOk, arith}
use Rattle.std.{proofs.KnownBytes.Appends-nil, specs.List.AllZip, specs.List.list_all, specs.List.range_with_len, specs.List.sum_by}
use Rattle.std.proofs.lemmas.{Bool.Decides.nat_tests, List.length-map, List.map-append, List.map-id, List.FromFn.map-range_with_len_more}
use Rattle.std.proofs.lemmas.{List.Sums.sum_by-append, List.Sums.sum_by-cons, List.Concat.flat_map-cons}
use Rattle.std.proofs.lemmas.List.Elements.{All-nil, All-cons, All-head, All-tail, All-map, All-append, All-weaker}
use mathlib.Core.List.{IsPrefix}
use Rattle.mml_lines.proofs.RunsLemmas.{run_keeps}
use Rattle.mml_board.specs.declared.event.Event.{Event}
use Rattle.mml_window.specs.{Logs.IsLogFrom, Windows.WindowValue, Windows.window}
use Rattle.mml_window.proofs.PrefixLemmas.{prefix_length, prefix_self, prefix_trans}
use Rattle.mml_session.specs.Records.{Kept, stand}
use Rattle.mml_session.proofs.SeenLemmas.{Sees, ended_seen}
use Rattle.mml_serving.specs.{declared.serving.ServeFault.ServeFault, Closings.LacksLastLine, Closings.done_line}
use Rattle.mml_hosting.specs.{declared.seat.Seat.Seat, declared.seat.SeatRecord.SeatRecord, declared.hosted.Hosted.Hosted, declared.hosted.HostFault.HostFault}
use Rattle.mml_hosting.specs.Seats.{AreGiven, AreGoingOn, IsDismissed, IsSeat, Leads, Led, Terms, came_to, kept_from, sessions_of}
use Rattle.mml_hosting.specs.{Ports.HaveSame, Ports.ServesPort, Ports.numbers_of, Ports.records_of, Ports.windows_of, Hosting.HostsFrom, Hosting.IsUnused, Faults.fault_of}
use Rattle.mml_hosting.specs.Failing.{EndsWithoutLog, HostsBadly, HostsEarly, ServesBoth}
use Rattle.mml_serving.specs.declared.serving.ServeFault.TheVariants as why
use Rattle.mml_hosting.specs.declared.hosted.HostFault.TheVariants as fault

-- if the desk's seat has the number 1, and the others have the n numbers from 2 on, all have the numbers from 1 to n +
-- 1
all_numbers : (n total : ℕ) (desk_old old desk others : List ℕ) → n + 1 ≡ total → desk_old ≡ 1 ∷ [] → old ≡ range_with_len 2 n
    → HaveSame desk_old desk → HaveSame old others → HaveSame (range_with_len 1 total) (desk ++ others)
all_numbers n total desk_old old desk others count one rest at_desk elsewhere = λ g.
    grind (arith, add-one, sum_by-cons, sum_by-append, at_desk g, elsewhere g)

-- if the seats have the n numbers from `first` on, and one more seat has the next number, all together have the n + 1
-- numbers from `first` on
pub numbers_more : {H K C : Type 0} (first n m : ℕ) (ss ss' : List (Seat H K C)) (s : Seat H K C) → ss' ≡ ss ++ s ∷ [] → m ≡ n + 1
    → numbers_of (records_of ss) ≡ range_with_len first n → s.record.number ≡ first + n → numbers_of (records_of ss') ≡ range_with_len first m
numbers_more first n m ss ss' s one more before here = grind (arith, map-append, map-id, map-range_with_len_more (λ k. k) first n)

-- if `given` has, for each number from n on, what the observer of this number has kept, `AreGiven` is true
pub are_given : {C : Type 0} (given : ℕ → Option Kept) (kept : C → Option Kept) (n : ℕ) (cs : List C)
    → ((m : ℕ) → n ≤ m → given m ≡ kept_from kept n cs m) → AreGiven given kept n cs
are_given given kept n [] same = tt
are_given given kept n (c ∷ cs) same =
    (grind (arith, nat_tests, same n (omega arith)), are_given given kept (n + 1) cs (λ m le. grind (arith, nat_tests, same m (omega (arith, le)))))

-- after its sessions, a window has seen what it had seen before them, and perhaps more
led_seen : {K C R W : Type 0} (t : Terms K C R W) (r : SeatRecord K C) (w : WindowValue) → Led t r w → Sees (window t.begun []) w
led_seen t r w =
    run_keeps (λ st s ss next. Leads t r.number s st next) (λ st next. Sees st.window next.window)
    (λ st. prefix_self st.window.seen) (λ st next end. prefix_trans st.window.seen next.window.seen end.window.seen)
    (λ st next s ss h. ended_seen s.ending.end t.lab st.window next.window (t.remaining s.came.value.0) (t.remaining s.reader) (t.contents s.came.value.1) (t.contents s.writer) h.0)
    (stand (window t.begun []) (t.given r.number)) (stand w (t.recorded r.observer)) (sessions_of t.shows r) (sessions_of t.shows r)

module _ {H K C R W : Type 0} (t : Terms K C R W) where
  -- seats in which nobody was served are valid
  pub all_fresh : (ss : List (Seat H K C)) → All (IsUnused t.begun t.given t.recorded) ss → All (IsSeat t) ss
  all_fresh ss h = λ k d lt. let fresh = h k d lt in grind (arith, nat_tests, All-nil)

  all_led : (ss : List (Seat H K C)) → All (IsSeat t) ss → AllZip (Led t) (records_of ss) (windows_of ss)
  all_led [] h = tt
  all_led (s ∷ ss) h = ((All-head (IsSeat t) s ss h).led, all_led ss (All-tail (IsSeat t) s ss h))

  -- each window has seen at least the events from before the house
  all_seen : (ss : List (Seat H K C)) → All (IsSeat t) ss → All (λ w. IsPrefix t.begun w.seen) (windows_of ss)
  all_seen ss h =
      All-map (λ w. IsPrefix t.begun w.seen) (λ (s : Seat H K C). s.window) ss
      (All-weaker (IsSeat t) (λ (s : Seat H K C). IsPrefix t.begun s.window.seen) (λ s is. led_seen t s.record s.window is.led) ss h)

  -- if the only seat, with the number 1, wasn't dismissed, the teacher's bye ended none of its sessions
  one_going_on : (ss : List (Seat H K C)) → length ss ≡ 1 → All (IsSeat t) ss → HaveSame (1 ∷ []) (numbers_of (records_of ss))
      → list_all (λ s. s.is_dismissed) ss ≡ false → All (λ r. AreGoingOn (sessions_of t.shows r)) (records_of ss)
  one_going_on (s ∷ []) one seats numbers undismissed = grind (arith, nat_tests, All-head (IsSeat t) s [] seats, numbers (λ n. n), All-cons, All-nil)
  one_going_on _ one seats numbers undismissed = absurd (omega (arith, one))

  none_came : (ss : List (Seat H K C)) → All (IsUnused t.begun t.given t.recorded) ss → flat_map (came_to t.shows) (records_of ss) ≡ []
  none_came [] h = refl
  none_came (s ∷ ss) h =
      grind (arith, nat_tests, All-head (IsUnused t.begun t.given t.recorded) s ss h, none_came ss (All-tail (IsUnused t.begun t.given t.recorded) s ss h), All-tail, flat_map-cons)

  -- if seats were dismissed, the teacher's bye ended the last session of each
  dismissed_all : (ss : List (Seat H K C)) → All (IsSeat t) ss → All (λ s. s.is_dismissed ≡ true) ss
      → All (λ r. IsDismissed (sessions_of t.shows r)) (records_of ss)
  dismissed_all ss seats dismissed =
      All-map (λ r. IsDismissed (sessions_of t.shows r)) (λ s. s.record) ss (λ k d lt. (seats k d lt).dismissed (dismissed k d lt))

  module _ {S : Type 0} (sink : S → Option (List ℕ)) {to_desk to_come : Option (List (R × W))} (n : ℕ) {desk_old old desks others : List (Seat H K C)}
      (count : n + 1 ≡ t.lab.sessions) (one : length desk_old ≡ 1)
      (desk_first : numbers_of (records_of desk_old) ≡ 1 ∷ []) (rest : numbers_of (records_of old) ≡ range_with_len 2 n)
      (desk_fresh : All (IsUnused t.begun t.given t.recorded) desk_old) (fresh : All (IsUnused t.begun t.given t.recorded) old)
      (at_desk : ServesPort t to_desk desk_old desks) (at_port : ServesPort t to_come old others) where
    both_served : ServesBoth t to_desk to_come (records_of desks) (records_of others) (windows_of desks) (windows_of others)
    both_served = record {
      at_least = All-append (λ w. IsPrefix t.begun w.seen) (windows_of desks) (windows_of others) (all_seen desks at_desk.seats) (all_seen others at_port.seats);
      numbers =
          rw (map-append (λ r. r.number) (records_of desks) (records_of others))
          (all_numbers n _ _ _ (numbers_of (records_of desks)) (numbers_of (records_of others)) count desk_first rest at_desk.numbers at_port.numbers);
      led_at_desk = all_led desks at_desk.seats;
      led_elsewhere = all_led others at_port.seats;
      one = length-map desks (λ s. s.record) ∙ (at_desk.count ∙ one);
      came_to_desk = rw (none_came desk_old desk_fresh) at at_desk.attends;
      came = rw (none_came old fresh) at at_port.attends;
    }

    -- if each window has seen a beginning of a list, this list begins with the events from before the house
    begun_with : (l : List Event) → All (λ w. IsPrefix w.seen l) (windows_of desks ++ windows_of others) → IsPrefix t.begun l
    begun_with l seen =
        let some : 0 < length (windows_of desks ++ windows_of others) =
        omega (arith, length-append (windows_of desks) (windows_of others), length-map desks (λ s. s.window), at_desk.count, one) in
        prefix_trans _ _ _ (both_served.at_least 0 (window [] []) some) (seen 0 (window [] []) some)

    -- if there is a log, the house ended as `HostsFrom` states
    pub hosted : {E : Type 0} (r : Result (Hosted S K C) E)
        → IfOk r (λ house. IsLogFrom (length t.begun) t.lab sink (windows_of desks ++ windows_of others) house.log)
        → IfOk r (λ _. All (λ s. s.is_dismissed ≡ true) desks)
        → IfOk r (λ house. house.at_desk.items ≡ records_of desks) → IfOk r (λ house. house.others.items ≡ records_of others)
        → IfOk r (λ house. HostsFrom t.begun t.given t.lab sink t.remaining t.contents t.recorded t.shows to_desk to_come house)
    hosted (Err e) kept dismissed desk_is others_is = tt
    hosted (Ok house) kept dismissed desk_is others_is = record {
      desk_windows = windows_of desks;
      windows = windows_of others;
      begins = begun_with house.log.events kept.seen;
      at_least = both_served.at_least;
      kept = kept;
      numbers = rw (desk_is, others_is) both_served.numbers;
      at_desk = rw desk_is both_served.led_at_desk;
      elsewhere = rw others_is both_served.led_elsewhere;
      one = rw desk_is both_served.one;
      dismissed = rw desk_is (dismissed_all desks at_desk.seats dismissed);
      came_to_desk = rw desk_is both_served.came_to_desk;
      came = rw others_is both_served.came;
    }

    -- if there is no log, the house ended early, as `HostsEarly` states
    pub unhosted : (f : HostFault) → EndsWithoutLog (length t.begun) t.lab sink desks (windows_of desks ++ windows_of others) f
        → HostsEarly t sink to_desk to_come f
    unhosted fault.Undismissed without =
        let going = one_going_on desks (at_desk.count ∙ one) at_desk.seats (λ h. ap (sum_by h) (sym desk_first) ∙ at_desk.numbers h) without.0 in
        let begins = begun_with without.1.events without.2.seen in
        record { at_desk = _; others = _; desk_windows = _; windows = _; serves = both_served; holds = (going, without.1, without.2, begins) }
    unhosted fault.Astray without =
        let begins = begun_with without.1.events without.2.seen in
        let places = without.3 (prefix_length t.begun without.1.events begins) in record {
          at_desk = _;
          others = _;
          desk_windows = _;
          windows = _;
          serves = both_served;
          holds = (dismissed_all desks at_desk.seats without.0, record { left = without.1; leaves = without.2; places = places; few = without.4 }, begins);
        }
    unhosted _ without = grind arith

-- What a failed house has written.
module _ {S K C R W : Type 0} (t : Terms K C R W) (sink : S → Option (List ℕ)) (to_desk to_come : Option (List (R × W))) where
  -- if the house ended early, and nothing was written, it failed as `HostsBadly` states
  pub badly_early : (wrote : Option (List ℕ)) (f : HostFault) → HostsEarly t sink to_desk to_come f → HostsBadly t sink to_desk to_come wrote wrote f
  badly_early wrote f early = grind (arith, nat_tests, Appends-nil)

  -- if there is a log, the error is the reason why the host's last line wasn't written whole
  pub badly_logged : (house : Hosted S K C)
      → HostsFrom t.begun t.given t.lab sink t.remaining t.contents t.recorded t.shows to_desk to_come house
      → (wrote wrote' : Option (List ℕ)) (f : ServeFault)
      → LacksLastLine house.log.halted wrote wrote' (done_line (length house.log.events) house.log.board.number) f
      → HostsBadly t sink to_desk to_come wrote wrote' (fault_of f)
  badly_logged house hosts wrote wrote' why.Memory lacks = lacks.1
  badly_logged house hosts wrote wrote' why.Halted lacks = (record { house = house; hosts = hosts; holds = lacks.0 }, lacks.1)
  badly_logged house hosts wrote wrote' why.Write lacks = record { house = house; hosts = hosts; holds = (lacks.0, rw hosts.kept.board at lacks.1) }
  badly_logged house hosts wrote wrote' _ lacks = absurd lacks
