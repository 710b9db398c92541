-- A round in which one rule is applied at each node that passes a test, from the highest node to the lowest. Each close
-- applies one move.
use Rattle.std.proofs.Common.{sym, refl, subst, ◌≡◌, ℕ, zero, suc, ◌+◌, ◌<◌, ◌≤◌, inl, inr, Bool, true, false, cond, not, ◌&&◌, nat_le, None, Some, List, [], ◌∷◌, ◌++◌, ap, arith}
use Rattle.std.specs.List.{list_all}
use Rattle.std.proofs.lemmas.Bool.{and_from, or_left, or_right, cases_Bool, cases_eq, le-leb, eq-eqb, ne_eqb, Decides.nat_tests}
use Rattle.mml_ids.specs.Search.{count_below}
use Rattle.mml_rules.specs.{declared.rule.Rule.Rule, Configuration.Configuration, Rules.is_privileged, Rules.guard, Rules.moved, Rules.effect}
use Rattle.mml_lab.specs.Rosters.{RosterValue, owns}
use Rattle.mml_board.specs.{declared.event.Event.Event, World.World, World.size, World.configuration, World.IsWorld, Events.is_chosen, Events.after, Runs.is_legal_list, Runs.world_of}
use Rattle.mml_convergence.specs.{Moves.is_close, Moves.applied_over, Moves.count_closes, Rest.is_grant_or_close, Rounds.is_served, Rounds.IsRound, Rounds.Rounds}
use Rattle.mml_convergence.proofs.MoveLemmas.{GoesOn, IsQuiet, IsMoved, Move, move, after_move, is, kept, turned}
use Rattle.mml_lab.specs.declared.who.Who.TheVariants as who
use Rattle.mml_board.specs.declared.event.Event.TheVariants as event

-- i passes the test, and is at least n
abbrev pub above : (ℕ → Bool) → ℕ → ℕ → Bool
above t n i = t i && nat_le n i

pub above_off : (t : ℕ → Bool) (n i : ℕ) → i < n → above t n i ≡ false
above_off t n i lt = grind (arith, nat_tests)

pub above_out : (t : ℕ → Bool) (n i : ℕ) → t i ≡ false → above t n i ≡ false
above_out t n i off = ap (λ b. b && nat_le n i) off

pub above_in : (t : ℕ → Bool) (n i : ℕ) → above t n i ≡ true → (t i ≡ true) × (n ≤ i)
above_in t n i e = grind (arith, nat_tests)

-- after the rule was applied at all higher nodes that pass, it may be applied at n, and has the same effect as before
abbrev pub Stands : (c : Configuration) (t : ℕ → Bool) (rule : Rule) → Type 0
Stands c t rule = (d : Configuration) (n : ℕ) → n < c.size → t n ≡ true → IsMoved c d (above t (suc n)) rule
    → (guard d n rule ≡ true) × ((effect d n rule).p ≡ (effect c n rule).p) × ((effect d n rule).m ≡ (effect c n rule).m)

-- a node that isn't privileged at the beginning has its turn
pub idle_served : (i : ℕ) (w : World) (es : List Event) → is_privileged (configuration w) i ≡ false → is_served i w es ≡ true
idle_served i w [] e = ap not e
idle_served i w (x ∷ es) e = or_left _ _ (ap not e)

-- a node that has its turn in a list has it also in the list with one more event before it
served_later : (i : ℕ) (w : World) (e : Event) (es : List Event) → is_served i (after w e) es ≡ true → is_served i w (e ∷ es) ≡ true
served_later i w e es h = or_right _ _ (or_right _ _ h)

-- a node has its turn if a close applies its move
served_now : (i : ℕ) (w : World) (e : Event) (es : List Event) → is_close e ≡ true → is_chosen w i ≡ true → is_served i w (e ∷ es) ≡ true
served_now i w e es close chosen = or_right _ _ (or_left _ _ (and_from _ _ close chosen))

module _ (A : World → ℕ → Type 0) (r : RosterValue) (s k n : ℕ) (c : Configuration) (t : ℕ → Bool) (rule : Rule) (sized : c.size ≡ n)
    (owned : (i : ℕ) → i < n → owns r (who.Student s) i ≡ true) (stands : Stands c t rule)
    (next : (u : World) → IsWorld u → IsQuiet u → IsMoved c (configuration u) t rule → GoesOn A r u k) where
  -- the rest of the round (front), in which the nodes below m that pass still move, and the events after the round
  -- (back)
  record Part (m : ℕ) (v : World) : Type 0 where
    front : List Event
    back : List Event
    legal : is_legal_list r v (front ++ back) ≡ true
    forward : list_all is_grant_or_close (front ++ back) ≡ true
    alone : applied_over v (front ++ back) ≡ count_closes (front ++ back)
    moves : applied_over v (front ++ back) ≡ count_below m t + applied_over (world_of v front) back
    rounds : Rounds k (world_of v front) back
    ends : A (world_of v (front ++ back)) (applied_over (world_of v front) back)
    turns : (i : ℕ) → i < m → t i ≡ true → is_served i v front ≡ true

  -- the move of m, followed by the rest of the round for the nodes below m, is the rest of the round for the nodes
  -- below m + 1
  with_one : (m : ℕ) (v : World) → Move r s v m rule → t m ≡ true → Part m (after_move s v m rule) → Part (suc m) v
  with_one m v o on rest =
      let counted : cond {A = ℕ} (t m) 1 0 ≡ 1 = ap (λ b. cond b 1 0) on in
      record {
        front = event.Grant s m rule ∷ event.Close ∷ rest.front;
        back = rest.back;
        legal = and_from _ _ o.legal (and_from _ _ o.close rest.legal);
        forward = rest.forward;
        alone = omega (arith, o.one, rest.alone);
        moves = omega (arith, o.one, rest.moves, counted);
        rounds = rest.rounds;
        ends = rest.ends;
        turns = grind (arith, nat_tests, is, cases_eq, served_later, served_now);
      }

  part : (m : ℕ) (v : World) → m ≤ n → IsWorld v → IsQuiet v → IsMoved c (configuration v) (above t m) rule → Part m v
  part zero v le world quiet e =
      let rest = next v world quiet (grind (arith, nat_tests, every)) in
      record {
        front = [];
        back = rest.events;
        legal = rest.legal;
        forward = rest.forward;
        alone = rest.alone;
        moves = omega arith;
        rounds = rest.rounds;
        ends = rest.ends;
        turns = λ i lt. absurd (omega (arith, lt));
      }
    where
      every : (i : ℕ) → above t 0 i ≡ t i
      every i = grind (arith, nat_tests)
  part (suc m) v le world quiet e = elim (cases_Bool (t m)) [
    | inl on ↦
        let lt : m < c.size = omega (arith, le, sized) in
        let x = stands (configuration v) m lt on e in
        let o = move r s v m rule world quiet (omega (arith, lt, e.size)) (owned m le) x.0 in
        with_one m v o on (part m (after_move s v m rule) (omega (arith, le)) o.world o.quiet
        (grind (arith, nat_tests, and_from, le-leb, turned, is, eq-eqb, cases_eq, kept, ne_eqb, configuration v, configuration (after_move s v m rule))))
    | inr off ↦
        let rest = part m v (omega (arith, le)) world quiet (grind (arith, nat_tests, configuration v, above t (suc m), above t m, off)) in
        grind (arith, nat_tests, is, rest)
  ]

-- a round in which the rule is applied at each node that passes, one node for each close, if no other node is
-- privileged
pub single_round : (A : World → ℕ → Type 0) (r : RosterValue) (s k n : ℕ) (t : ℕ → Bool) (rule : Rule) (w : World) → IsWorld w → IsQuiet w → size w ≡ n
    → ((i : ℕ) → i < n → owns r (who.Student s) i ≡ true) → Stands (configuration w) t rule
    → ((i : ℕ) → i < size w → t i ≡ false → is_privileged (configuration w) i ≡ false)
    → ((u : World) → IsWorld u → IsQuiet u → IsMoved (configuration w) (configuration u) t rule → GoesOn (λ v x. A v (count_below n t + x)) r u k)
    → GoesOn A r w (suc k)
single_round A r s k n t rule w world quiet sized owned stands others next =
    let x = part (λ v x. A v (count_below n t + x)) r s k n (configuration w) t rule sized owned stands next n w (omega arith) world quiet begun in
    let round : IsRound w x.front =
    λ i lt. elim (cases_Bool (t i)) [ inl on ↦ x.turns i (omega (arith, lt, sized)) on | inr off ↦ idle_served i w x.front (others i lt off) ] in
    record {
      events = x.front ++ x.back;
      legal = x.legal;
      forward = x.forward;
      alone = x.alone;
      rounds = (x.front, x.back, refl, round, x.rounds);
      ends = subst (λ z. A (world_of w (x.front ++ x.back)) z) (sym x.moves) x.ends;
    }
  where
    off : (i : ℕ) → i < size w → above t n i ≡ false
    off i lt = above_off t n i (omega (arith, lt, sized))

    begun : IsMoved (configuration w) (configuration w) (above t n) rule
    begun = record {
      size = refl;
      lawful = world.network.lawful;
      linked = λ i j. refl;
      p = λ i lt. sym (ap (λ b. (moved (configuration w) i (cond b (Some rule) None)).p) (off i lt));
      m = λ i lt. sym (ap (λ b. (moved (configuration w) i (cond b (Some rule) None)).m) (off i lt));
    }
