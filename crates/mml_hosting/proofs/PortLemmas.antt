-- The connections that came to a port so far, and the seats in which they are served.
use Rattle.std.proofs.Common.{◌≡◌, ◌∙◌, ap, ℕ, ◌+◌, List, [], ◌∷◌, ◌++◌, flat_map, refl, arith, append_assoc, All, Option, inl, inr}
use Rattle.std.specs.List.{sum_by}
use Rattle.std.proofs.lemmas.List.{Elements.All-nil, Elements.All-append, Elements.All-push, Sums.sum_by-append, Sums.sum_by-cons, Sums.sum_by-le, Concat.flat_map-cons}
use Rattle.mml_serving.specs.Arriving.{Takes}
use Rattle.mml_hosting.specs.{Seats.came_to, Ports.Attends, Ports.HaveSame, Ports.numbers_of, Ports.records_of}
use Rattle.mml_hosting.specs.Counting.{count_all, count_busy, count_free, count_in, KeepCounts, TakesIn}
use Rattle.mml_hosting.specs.declared.{seat.ServedSession.ServedSession, seat.Seat.Seat, port_serving.Busy.Busy}

-- The connections that came so far are in the seats, or were turned away. `first` has the seats before that. The
-- connections that they had served and those that came are together those that the free and the busy seats have served
-- or serve, and those in `turned`.
pub record History {H K C R W U : Type 0} (shows : K → ServedSession R W) (IsAway : R × W → Type 0) (known now : Option (List (R × W))) (first free : List (Seat H K C))
    (busy : List (Busy H K C R W U)) : Type 0 where
  pub connections : List (R × W)
  pub turned : List (R × W)
  pub came : Takes known now connections
  pub each : (g : ℕ → ℕ) (h : R × W → ℕ) → count_free shows g h first + sum_by h connections ≡ count_all shows g h free busy + sum_by h turned
  pub away : All IsAway turned

module _ {H K C R W U : Type 0} (shows : K → ServedSession R W) (IsAway : R × W → Type 0) (known : Option (List (R × W))) (first : List (Seat H K C)) where
  -- at first nobody came
  pub nothing_yet : (busy : List (Busy H K C R W U)) → busy ≡ [] → History shows IsAway known known first first busy
  nothing_yet busy none = record { connections = []; turned = []; came = grind arith; each = λ g h. rw none (omega arith); away = All-nil IsAway }

  module _ (now next : Option (List (R × W))) (free free' : List (Seat H K C)) (busy busy' : List (Busy H K C R W U))
      (so_far : History shows IsAway known now first free busy) where
    more_came : (came turned : List (R × W)) → Takes now next came → All IsAway turned
        → ((g : ℕ → ℕ) (h : R × W → ℕ) → count_all shows g h free' busy' + sum_by h turned ≡ count_all shows g h free busy + sum_by h came)
        → History shows IsAway known next first free' busy'
    more_came came turned takes away more = record {
      connections = so_far.connections ++ came;
      turned = so_far.turned ++ turned;
      came = grind (arith, append_assoc, so_far.came, takes);
      each = λ g h. omega (arith, so_far.each g h, more g h, sum_by-append h so_far.connections came, sum_by-append h so_far.turned turned);
      away = All-append IsAway so_far.turned turned so_far.away away;
    }

    -- if nobody else came, and the seats have the same numbers and connections together, `History` stays true
    pub nobody_came : Takes now next [] → KeepCounts shows free busy free' busy' → History shows IsAway known next first free' busy'
    nobody_came came same = more_came [] [] came (All-nil IsAway) (λ g h. omega (arith, same g h))

    -- if one more connection came, and is served in a seat or turned away, `History` stays true
    pub one_came : (ends : R × W) → Takes now next (ends ∷ []) → TakesIn shows IsAway ends free busy free' busy' → History shows IsAway known next first free' busy'
    one_came ends came (inl more) = more_came (ends ∷ []) [] came (All-nil IsAway) (λ g h. omega (arith, more g h))
    one_came ends came (inr (same, away)) =
        more_came (ends ∷ []) (ends ∷ []) came (All-push IsAway [] ends (All-nil IsAway) away) (λ g h. omega (arith, same g h))

-- the sum over seats is that of their numbers and that of the connections that came to them
counted : {H K C R W : Type 0} (shows : K → ServedSession R W) (g : ℕ → ℕ) (h : R × W → ℕ) (ss : List (Seat H K C))
    → count_free shows g h ss ≡ sum_by g (numbers_of (records_of ss)) + sum_by h (flat_map (came_to shows) (records_of ss))
counted shows g h [] = refl
counted shows g h (s ∷ ss) =
    let came =
    ap (sum_by h) (flat_map-cons (came_to shows) s.record (records_of ss))
    ∙ sum_by-append h (came_to shows s.record) (flat_map (came_to shows) (records_of ss)) in
    omega (arith, came, counted shows g h ss, sum_by-cons (count_in shows g h) s ss, sum_by-cons g s.record.number (numbers_of (records_of ss)))

sum_none : {A : Type 0} (xs : List A) → sum_by (λ x. 0) xs ≡ 0
sum_none xs = omega (arith, sum_by-le (λ x. 0) 0 xs (λ k d lt. omega arith))

-- No seat is busy any longer.
module _ {H K C R W U : Type 0} (shows : K → ServedSession R W) (IsAway : R × W → Type 0) (known now : Option (List (R × W)))
    (first free last : List (Seat H K C))
    (busy gone : List (Busy H K C R W U)) (so_far : History shows IsAway known now first free busy) (over : gone ≡ [])
    (joined : KeepCounts shows free busy last gone) where
  all_there : (g : ℕ → ℕ) (h : R × W → ℕ)
      → sum_by g (numbers_of (records_of first)) + sum_by h (flat_map (came_to shows) (records_of first) ++ so_far.connections)
      ≡ sum_by g (numbers_of (records_of last)) + sum_by h (flat_map (came_to shows) (records_of last) ++ so_far.turned)
  all_there g h =
      rw (sum_by-append h _ so_far.connections, sum_by-append h _ so_far.turned)
      (omega (arith, so_far.each g h, joined g h, ap (count_busy shows g h) over, counted shows g h first, counted shows g h last))

  -- the seats have the same numbers as at first
  pub port_numbers : HaveSame (numbers_of (records_of first)) (numbers_of (records_of last))
  port_numbers g =
      let came = λ (ss : List (Seat H K C)). flat_map (came_to shows) (records_of ss) in
      omega (arith, all_there g (λ c. 0), sum_none (came first ++ so_far.connections), sum_none (came last ++ so_far.turned))

  -- each connection that came was served once or turned away
  pub port_attended : (attends : Attends known (flat_map (came_to shows) (records_of first)) (flat_map (came_to shows) (records_of last)))
      × All IsAway attends.turned
  port_attended = (
    record {
      connections = so_far.connections;
      turned = so_far.turned;
      left = now;
      came = so_far.came;
      each = λ h. omega (arith, all_there (λ n. 0) h, sum_none (numbers_of (records_of first)), sum_none (numbers_of (records_of last)));
    },
    so_far.away,
  )
