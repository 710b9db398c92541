-- Timelines and how they are woven. A timeline has what was said on some connections of a house, in order, each with the
-- events of the house that it took into account and the event that it caused, if any. A house is one run of a lab that
-- threads share. The place of an event is its number in the list of events, from 1.
use Rattle.std.{proofs.lemmas.Bool.Decides.nat_tests, specs.List.AllByRecursion, proofs.lemmas.Bool.cases_eq, proofs.lemmas.Bool.ne_eqb}
use Rattle.std.proofs.Common.{◌≡◌, ◌≢◌, ◌⊎◌, inl, inr, ◌≤◌, ◌<◌, ◌+◌, ◌==◌, ℕ, cond, List, [], ◌∷◌, ◌++◌, length, map, flat_map, Option, None, Some, refl, sym, ap, ◌∙◌, subst, arith, length-append}
use mathlib.Core.List.{IsPrefix}
use Rattle.mml_board.specs.declared.event.Event.{Event}
use Rattle.mml_window.specs.Tallies.{times}
use Rattle.mml_window.proofs.{TallyLemmas.times_append, PrefixLemmas.prefix_self, PrefixLemmas.prefix_trans, PrefixLemmas.prefix_shorter, PrefixLemmas.prefix_whole, PrefixLemmas.prefix_length}
use Rattle.mml_session.specs.Turns.{entered}

-- this was said on a connection after the events `before`, and caused this event, if any
pub record Item (A : Type 0) : Type 0 where
  pub connection : ℕ
  pub said : A
  pub before : List Event
  pub caused : Option Event

-- the place of an event after the events l, or none
abbrev pub placed : List Event → Option Event → List ℕ
placed l None = []
placed l (Some e) = (length l + 1) ∷ []

entered_begins : (l : List Event) (caused : Option Event) → IsPrefix l (entered l caused)
entered_begins l None = prefix_self l
entered_begins l (Some e) = (e ∷ [], refl)

-- a place of the events before, or one after the event, isn't the place of this event
placed_off : (l : List Event) (caused : Option Event) (ps : List ℕ) (p : ℕ) → (p ≤ length l) ⊎ (length (entered l caused) < p)
    → times p (placed l caused ++ ps) ≡ times p ps
placed_off l caused ps p off = grind (arith, nat_tests, length-append)

module _ {A : Type 0} where
  -- the events after an item
  abbrev pub upto : Item A → List Event
  upto i = entered i.before i.caused

  -- the places of the events that were caused
  abbrev pub owned : List (Item A) → List ℕ
  owned is = flat_map (λ i. placed i.before i.caused) is

  -- the items on a connection
  abbrev pub on : ℕ → List (Item A) → List (Item A)
  on k [] = []
  on k (i ∷ is) = cond {A = List (Item A)} (i.connection == k) (i ∷ on k is) (on k is)

  -- the first item comes after the events l, or later, and each other item comes after the item before it, up to the
  -- events `all`
  abbrev pub InOrder : List Event → List Event → List (Item A) → Type 0
  InOrder l all [] = IsPrefix l all
  InOrder l all (i ∷ is) = IsPrefix l i.before × InOrder (upto i) all is

  -- no event happens between two items, before the first item or after the last one
  abbrev pub IsWhole : List Event → List Event → List (Item A) → Type 0
  IsWhole l all [] = l ≡ all
  IsWhole l all (i ∷ is) = (l ≡ i.before) × IsWhole (upto i) all is

  -- the connections are from `low` to below `top`, and `Fine` is true of what was said
  abbrev pub Among : (A → Type 0) → ℕ → ℕ → List (Item A) → Type 0
  Among Fine low top is = AllByRecursion (λ i. (low ≤ i.connection) × (i.connection < top) × Fine i.said) is

  -- an item on connection k is the first one there
  pub on_hit : (k : ℕ) (i : Item A) (is : List (Item A)) → i.connection ≡ k → on k (i ∷ is) ≡ i ∷ on k is
  on_hit k i is same = grind (arith, nat_tests)

  -- an item on another connection isn't on connection k
  pub on_skip : (k : ℕ) (i : Item A) (is : List (Item A)) → i.connection ≢ k → on k (i ∷ is) ≡ on k is
  on_skip k i is differ = ap (λ b. cond {A = List (Item A)} b (i ∷ on k is) (on k is)) (ne_eqb i.connection k differ)

  sooner : (l m all : List Event) (is : List (Item A)) → IsPrefix l m → InOrder m all is → InOrder l all is
  sooner l m all [] p o = prefix_trans l m all p o
  sooner l m all (i ∷ is) p o = (prefix_trans l m i.before p o.0, o.1)

  begins : (l all : List Event) (is : List (Item A)) → InOrder l all is → IsPrefix l all
  begins l all [] o = o
  begins l all (i ∷ is) o = prefix_trans l i.before all o.0 (prefix_trans i.before (upto i) all (entered_begins i.before i.caused) (begins (upto i) all is o.1))

  -- no place of the events before the first item is owned
  owned_later : (l all : List Event) (is : List (Item A)) (p : ℕ) → InOrder l all is → p ≤ length l → times p (owned is) ≡ 0
  owned_later l all [] p o le = refl
  owned_later l all (i ∷ is) p o le =
      let here : p ≤ length i.before = omega (arith, le, prefix_length l i.before o.0) in
      placed_off i.before i.caused (owned is) p (inl here)
      ∙ owned_later (upto i) all is p o.1 (omega (arith, here, prefix_length i.before (upto i) (entered_begins i.before i.caused)))

  -- if the place of each event is owned, no event happens between the items
  pub whole : (l all : List Event) (is : List (Item A)) → InOrder l all is → ((p : ℕ) → length l < p → p ≤ length all → 1 ≤ times p (owned is))
      → IsWhole l all is
  whole l all [] o some = prefix_whole l all o (grind (arith, some (length l + 1)))
  whole l all (i ∷ is) o some =
      let now : InOrder i.before all (i ∷ is) = (prefix_self i.before, o.1) in
      let few = prefix_length i.before all (begins i.before all (i ∷ is) now) in
      let long = prefix_length i.before (upto i) (entered_begins i.before i.caused) in (
        prefix_whole l i.before o.0 (grind (arith, some (length l + 1), owned_later i.before all (i ∷ is) (length l + 1) now, few)),
        whole (upto i) all is o.1
            (λ p above room. omega (arith, some p, room, above, long, prefix_length l i.before o.0, placed_off i.before i.caused (owned is) p (inr above))),
      )

  -- of two items that cause no event in common, one comes before the other
  either : (d e : Item A) (ps qs : List ℕ) → ((p : ℕ) → times p (placed d.before d.caused ++ ps) + times p (placed e.before e.caused ++ qs) ≤ 1)
      → (length (upto d) ≤ length e.before) ⊎ (length (upto e) ≤ length d.before)
  either d e ps qs few = grind (arith, nat_tests, length-append, few (length d.before + 1))

  next : (all : List Event) (d e : Item A) (ds es : List (Item A)) → InOrder (upto d) all ds → InOrder (upto e) all es → length (upto d) ≤ length e.before
      → InOrder (upto d) all (e ∷ es)
  next all d e ds es o q le = (prefix_shorter (upto d) e.before all (begins (upto d) all ds o) (begins e.before all (e ∷ es) (prefix_self e.before, q)) le, q)

  -- ---- the items of connection j, and those of the connections from j + 1 to below `top`

  module _ (Fine : A → Type 0) (j top : ℕ) (room : j < top) (all : List Event) where
    -- these items after the events l are those of both
    record AreBoth (l : List Event) (xs ys items : List (Item A)) : Type 0 where
      order : InOrder l all items
      first : on j items ≡ xs
      others : (k : ℕ) → k ≢ j → on k items ≡ on k ys
      places : (p : ℕ) → times p (owned items) ≡ times p (owned xs) + times p (owned ys)
      only : Among Fine j top items

    abbrev Woven : List Event → List (Item A) → List (Item A) → Type 0
    Woven l xs ys = (items : List (Item A)) × AreBoth l xs ys items

    put_first : (l : List Event) (i : Item A) (xs ys : List (Item A)) → IsPrefix l i.before → Among Fine j (j + 1) (i ∷ []) → Woven (upto i) xs ys
        → Woven l (i ∷ xs) ys
    put_first l i xs ys starts mine w = (i ∷ w.0, grind (arith, nat_tests, times_append))

    put_other : (l : List Event) (i : Item A) (xs ys : List (Item A)) → IsPrefix l i.before → Among Fine (j + 1) top (i ∷ []) → Woven (upto i) xs ys
        → Woven l xs (i ∷ ys)
    put_other l i xs ys starts theirs w = (i ∷ w.0, grind (arith, nat_tests, times_append))

    -- the items xs can be woven with all items of the other connections that cause other events
    abbrev Weave : List (Item A) → Type 0
    Weave xs =
        (l : List Event) (ys : List (Item A)) → InOrder l all xs → InOrder l all ys → Among Fine (j + 1) top ys
        → ((p : ℕ) → times p (owned xs) + times p (owned ys) ≤ 1) → Woven l xs ys

    weave_first : (i : Item A) (xs : List (Item A)) → Among Fine j (j + 1) (i ∷ []) → Weave xs → Weave (i ∷ xs)
    weave_first i xs mine rest l [] o q b few =
        put_first l i xs [] o.0 mine
        (rest (upto i) [] o.1 (begins (upto i) all xs o.1) tt (λ p. omega (arith, few p, times_append p (placed i.before i.caused) (owned xs))))
    weave_first i xs mine rest l (e ∷ ys) o q b few = elim (either i e (owned xs) (owned ys) few) [
      | inl first ↦
          put_first l i xs (e ∷ ys) o.0 mine
          (rest (upto i) (e ∷ ys) o.1 (next all i e xs ys o.1 q.1 first) b (λ p. omega (arith, few p, times_append p (placed i.before i.caused) (owned xs))))
      | inr later ↦
          put_other l e (i ∷ xs) ys q.0 (b.0, tt)
          (weave_first i xs mine rest (upto e) ys (next all e i ys xs q.1 o.1 later) q.1 b.1
          (λ p. omega (arith, few p, times_append p (placed e.before e.caused) (owned ys))))
    ]

    weave : (xs : List (Item A)) → Among Fine j (j + 1) xs → Weave xs
    weave [] mine l [] o q b few = ([], record { order = o; first = refl; others = λ k differ. refl; places = λ p. omega arith; only = tt })
    weave [] mine l (i ∷ ys) o q b few =
        put_other l i [] ys q.0 (b.0, tt)
        (weave [] tt (upto i) ys (begins (upto i) all ys q.1) q.1 b.1 (λ p. omega (arith, few p, times_append p (placed i.before i.caused) (owned ys))))
    weave (i ∷ xs) mine l ys o q b few = weave_first i xs (mine.0, tt) (weave xs mine.1) l ys o q b few

-- ---- timelines that connections follow

-- `Step l known a known' caused`: after the events l, `a` is said on a connection whose state is `known`; its state is
-- `known'` afterwards, and `caused` is the event that this caused, if any
module _ {A K : Type 0} (Step : List Event → K → A → K → Option Event → Type 0) (Fine : A → Type 0) where
  -- these items are steps, one after another; `known` is the state at first
  abbrev pub Steps : K → List (Item A) → Type 0
  Steps known [] = Unit {0}
  Steps known (i ∷ is) = (known' : K) × Step i.before known i.said known' i.caused × Steps known' is

  -- these items are steps in which this was said
  abbrev pub Says : K → List A → List (Item A) → Type 0
  Says known said is = Steps known is × (map (λ i. i.said) is ≡ said)

  -- a timeline of connection k, after the events l and up to the events `all`. The places are those of the events that
  -- the connection caused
  pub record Timeline (k : ℕ) (known : K) (l all : List Event) (said : List A) (ps : List ℕ) : Type 0 where
    pub items : List (Item A)
    pub says : Says known said items
    pub order : InOrder l all items
    pub places : owned items ≡ ps
    pub only : Among Fine k (k + 1) items

  -- nothing more is said
  pub silent : (k : ℕ) (known : K) (l d all : List Event) → l ++ d ≡ all → Timeline k known l all [] []
  silent k known l d all e = record { items = []; says = (tt, refl); order = (d, e); places = refl; only = tt }

  module _ (k : ℕ) (known : K) (all : List Event) (said : List A) (ps : List ℕ) where
    -- other events come first
    pub waits : (l d : List Event) → Timeline k known (l ++ d) all said ps → Timeline k known l all said ps
    waits l d t = record { items = t.items; says = t.says; order = sooner l (l ++ d) all t.items (d, refl) t.order; places = t.places; only = t.only }

    -- first this is said, and causes an event or none
    pub says_first : (l : List Event) (a : A) (known' : K) (caused : Option Event) → Fine a → Step l known a known' caused
        → Timeline k known' (entered l caused) all said ps → Timeline k known l all (a ∷ said) (placed l caused ++ ps)
    says_first l a known' caused fine step t = record {
      items = record { connection = k; said = a; before = l; caused = caused } ∷ t.items;
      says = ((known', step, t.says.0), ap (λ (x : List A). a ∷ x) t.says.1);
      order = (prefix_self l, t.order);
      places = ap (λ (x : List ℕ). placed l caused ++ x) t.places;
      only = ((omega arith, omega arith, fine), t.only);
    }

  -- ---- one timeline of several connections

  module _ (start : K) (l all : List Event) where
    -- the first of the lists was said on connection j, and each later list on the next connection
    abbrev pub EachSays : ℕ → List (List A) → List (Item A) → Type 0
    EachSays j [] is = Unit {0}
    EachSays j (said ∷ others) is = Says start said (on j is) × EachSays (j + 1) others is

    pub record Together (j : ℕ) (saids : List (List A)) (ps : List ℕ) : Type 0 where
      pub items : List (Item A)
      pub each : EachSays j saids items
      pub order : InOrder l all items
      pub places : (p : ℕ) → times p (owned items) ≡ times p ps
      pub only : Among Fine j (j + length saids) items

    pub nobody : (j : ℕ) (d : List Event) → l ++ d ≡ all → Together j [] []
    nobody j d e = record { items = []; each = tt; order = (d, e); places = λ p. refl; only = tt }

    each_same : (j : ℕ) (saids : List (List A)) (xs ys : List (Item A)) → ((k : ℕ) → j ≤ k → on k xs ≡ on k ys) → EachSays j saids ys → EachSays j saids xs
    each_same j [] xs ys same each = tt
    each_same j (said ∷ others) xs ys same each =
        (subst (Says start said) (sym (same j (omega arith))) each.0, each_same (j + 1) others xs ys (λ k le. same k (omega (arith, le))) each.1)

    -- one more connection
    pub joined : (j : ℕ) (said : List A) (saids : List (List A)) (ps qs : List ℕ) → Timeline j start l all said ps → Together (j + 1) saids qs
        → ((p : ℕ) → times p ps + times p qs ≤ 1) → Together j (said ∷ saids) (ps ++ qs)
    joined j said saids ps qs t u few =
        let top : j + 1 + length saids ≡ j + length (said ∷ saids) = omega arith in
        let w =
        weave Fine j (j + length (said ∷ saids)) (omega arith) all t.items t.only l u.items t.order u.order
        (subst (λ n. Among Fine (j + 1) n u.items) top u.only) (λ p. omega (arith, few p, ap (times p) t.places, u.places p)) in record {
          items = w.0;
          each = (
            subst (Says start said) (sym w.1.first) t.says,
            each_same (j + 1) saids w.0 u.items (λ k le. w.1.others k (λ same. omega (arith, le, same))) u.each,
          );
          order = w.1.order;
          places = λ p. omega (arith, w.1.places p, ap (times p) t.places, u.places p, times_append p ps qs);
          only = w.1.only;
        }

    -- what is said on a connection of the list are steps
    pub each_steps : (j k : ℕ) (saids : List (List A)) (is : List (Item A)) → EachSays j saids is → j ≤ k → k < j + length saids → Steps start (on k is)
    each_steps j k [] is each le lt = absurd (omega (arith, le, lt))
    each_steps j k (said ∷ others) is each le lt = elim (cases_eq k j) [
      | inl same ↦ subst (λ n. Steps start (on n is)) (sym same) each.0.0
      | inr later ↦ each_steps (j + 1) k others is each.1 (omega (arith, le, later)) (omega (arith, lt))
    ]
