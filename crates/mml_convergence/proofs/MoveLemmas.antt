-- Runs in which each close applies only one move.
use Rattle.std.{proofs.lemmas.Bool.Decides.nat_tests, proofs.lemmas.Bool.and_from, proofs.lemmas.Bool.eq-eqb, specs.List.list_all}
use Rattle.std.proofs.Common.{◌≡◌, ℕ, suc, ◌<◌, Bool, true, false, cond, ◌==◌, Option, None, Some, is_some, List, [], ◌∷◌, refl, ap, ◌∙◌, arith}
use Rattle.mml_ids.proofs.SearchLemmas.{count_same}
use Rattle.mml_rules.specs.{declared.regs.Regs.Regs, declared.rule.Rule.Rule, Configuration.Configuration, Configuration.IsLawful, Rules.guard, Rules.effect, Rules.moved, Network.registers_at}
use Rattle.mml_lab.specs.Rosters.{RosterValue, owns}
use Rattle.mml_board.specs.{declared.event.Event.Event, World.World, World.size, World.configuration, World.chosen_at, World.IsWorld, Runs.is_legal_list, Runs.world_of}
use Rattle.mml_board.specs.Events.{is_chosen, is_legal, after, chosen_count, moved_registers}
use Rattle.mml_board.proofs.WorldLemmas.{after-world, chosen_at-set, moved_at, none_at, size-after}
use Rattle.mml_board.proofs.ClausesLemmas.{owned_legal, grant_possible, close_possible}
use Rattle.mml_convergence.specs.{Moves.applied_over, Moves.count_closes, Rest.is_grant_or_close, Rounds.Rounds}
use Rattle.mml_convergence.proofs.{RestLemmas.any_chosen, SumsLemmas.count_one}
use Rattle.mml_lab.specs.declared.who.Who.TheVariants as who
use Rattle.mml_board.specs.declared.event.Event.TheVariants as event

-- a legal list of grants and closes from w in which each close applies one move; it has k rounds, and A holds of the
-- world after it and of its number of moves
pub record GoesOn (A : World → ℕ → Type 0) (r : RosterValue) (w : World) (k : ℕ) : Type 0 where
  pub events : List Event
  pub legal : is_legal_list r w events ≡ true
  pub forward : list_all is_grant_or_close events ≡ true
  pub alone : applied_over w events ≡ count_closes events
  pub rounds : Rounds k w events
  pub ends : A (world_of w events) (applied_over w events)

-- the empty list is a run with no moves and no rounds, if A holds of the world before it and of 0 moves
pub stop : (A : World → ℕ → Type 0) (r : RosterValue) (w : World) → A w 0 → GoesOn A r w 0
stop A r w ends = record { events = []; legal = refl; forward = refl; alone = refl; rounds = tt; ends = ends }

-- if A implies B, a run after which A holds is one after which B holds; at least 0 of its rounds are counted
pub unrounded : (A B : World → ℕ → Type 0) (r : RosterValue) (w : World) (k : ℕ) → ((u : World) (x : ℕ) → A u x → B u x) → GoesOn A r w k → GoesOn B r w 0
unrounded A B r w k so g = grind (arith, nat_tests)

-- a run as `GoesOn` defines it, with exactly a moves
abbrev pub Goes : ℕ → RosterValue → World → Type 0
Goes a r w = GoesOn (λ u x. x ≡ a) r w 0

abbrev pub IsQuiet : World → Type 0
IsQuiet w = (i : ℕ) → chosen_at w.chosen i ≡ None

-- d is the configuration after a step from c that applies the rule at each node that passes the test
pub record IsMoved (c d : Configuration) (t : ℕ → Bool) (rule : Rule) : Type 0 where
  pub size : d.size ≡ c.size
  pub lawful : IsLawful d
  pub linked : (i j : ℕ) → d.linked i j ≡ c.linked i j
  pub p : (i : ℕ) → i < c.size → d.p i ≡ (moved c i (cond (t i) (Some rule) None)).p
  pub m : (i : ℕ) → i < c.size → d.m i ≡ (moved c i (cond (t i) (Some rule) None)).m

-- nodes at which the rule isn't applied keep their registers, and the others have those that the rule writes
module _ (c d : Configuration) (t : ℕ → Bool) (rule : Rule) (e : IsMoved c d t rule) where
  pub kept : (i : ℕ) → i < c.size → t i ≡ false → (d.p i ≡ c.p i) × (d.m i ≡ c.m i)
  kept i lt off = grind (arith, nat_tests)

  pub turned : (i : ℕ) → i < c.size → t i ≡ true → (d.p i ≡ (effect c i rule).p) × (d.m i ≡ (effect c i rule).m)
  turned i lt on = grind (arith, nat_tests)

-- node i has the registers p and m
abbrev pub Holds : Configuration → ℕ → Option ℕ → Bool → Type 0
Holds c i p m = (c.p i ≡ p) × (c.m i ≡ m)

abbrev pub is : ℕ → ℕ → Bool
is i j = j == i

-- ---- a grant and a close

abbrev pub after_move : ℕ → World → ℕ → Rule → World
after_move s w x rule = after (after w (event.Grant s x rule)) event.Close

pub record Move (r : RosterValue) (s : ℕ) (w : World) (x : ℕ) (rule : Rule) : Type 0 where
  pub legal : is_legal r w (event.Grant s x rule) ≡ true
  pub chosen : is_chosen (after w (event.Grant s x rule)) x ≡ true
  pub close : is_legal r (after w (event.Grant s x rule)) event.Close ≡ true
  pub one : chosen_count (after w (event.Grant s x rule)) ≡ 1
  pub world : IsWorld (after_move s w x rule)
  pub quiet : IsQuiet (after_move s w x rule)
  pub moved : IsMoved (configuration w) (configuration (after_move s w x rule)) (is x) rule

pub move : (r : RosterValue) (s : ℕ) (w : World) (x : ℕ) (rule : Rule) → IsWorld w → IsQuiet w → x < size w → owns r (who.Student s) x ≡ true
    → guard (configuration w) x rule ≡ true → Move r s w x rule
unfolding chosen_count
move r s w x rule world quiet lt owner holds =
    let v : World = after w (event.Grant s x rule) in
    let possible = grant_possible w s x rule lt (quiet x) holds in
    let granted = after-world w (event.Grant s x rule) world possible in
    let choice : (i : ℕ) → chosen_at v.chosen i ≡ cond (i == x) (Some rule) None =
    λ i. chosen_at-set w.chosen x i (Some rule) (omega (arith, lt, world.choices)) ∙ ap (λ o. cond (i == x) (Some rule) o) (quiet i) in
    let chosen : is_chosen v x ≡ true = ap is_some (choice x ∙ ap (λ b. cond b (Some rule) None) (eq-eqb x x refl)) in
    let may_close = close_possible v (any_chosen v.chosen x chosen) in
    let closed = after-world v event.Close granted may_close in
    let registers : (i : ℕ) → registers_at (moved_registers v) i ≡ moved (configuration w) i (cond (i == x) (Some rule) None) =
    λ i. moved_at v granted.choices i ∙ ap (λ o. moved (configuration w) i o) (choice i) in
    record {
      legal = owned_legal r w (event.Grant s x rule) owner possible;
      chosen = chosen;
      close = owned_legal r v event.Close refl may_close;
      one = count_same (size w) (is_chosen v) (is x) (λ i _. grind (arith, choice i)) ∙ count_one x (size w) lt;
      world = closed;
      quiet = none_at (size w);
      moved = record {
        size = size-after v event.Close;
        lawful = closed.network.lawful;
        linked = λ i j. refl;
        p = λ i lt. ap (λ (g : Regs). g.p) (registers i);
        m = λ i lt. ap (λ (g : Regs). g.m) (registers i);
      };
    }

-- a move, followed by a run of a moves, is a run of a + 1 moves
then_goes : (r : RosterValue) (s : ℕ) (w : World) (x : ℕ) (rule : Rule) (a : ℕ) → Move r s w x rule → Goes a r (after_move s w x rule) → Goes (suc a) r w
then_goes r s w x rule a o rest = record {
  events = event.Grant s x rule ∷ event.Close ∷ rest.events;
  legal = and_from _ _ o.legal (and_from _ _ o.close rest.legal);
  forward = rest.forward;
  alone = omega (arith, o.one, rest.alone);
  rounds = tt;
  ends = omega (arith, o.one, rest.ends);
}

-- ---- moves on a network with fixed links, when the registers of all nodes are known

-- the registers g, but those of x are `to`
abbrev pub put : (ℕ → Regs) → ℕ → Regs → ℕ → Regs
put g x to i = cond (i == x) to (g i)

module _ (n : ℕ) (links : ℕ → ℕ → Bool) where
  -- a lawful configuration of n nodes with these links, in which node i has the registers g i
  pub record Has (g : ℕ → Regs) (c : Configuration) : Type 0 where
    pub size : c.size ≡ n
    pub lawful : IsLawful c
    pub linked : (i j : ℕ) → c.linked i j ≡ links i j
    pub p : (i : ℕ) → i < n → c.p i ≡ (g i).p
    pub m : (i : ℕ) → i < n → c.m i ≡ (g i).m

  -- the registers after a step in which only x moves
  written : (g : ℕ → Regs) (x : ℕ) (to : Regs) (rule : Rule) (c d : Configuration) → Has g c → IsMoved c d (is x) rule
      → (effect c x rule).p ≡ to.p → (effect c x rule).m ≡ to.m → Has (put g x to) d
  written g x to rule c d k e to_p to_m = record {
    size = e.size ∙ k.size;
    lawful = e.lawful;
    linked = λ i j. e.linked i j ∙ k.linked i j;
    p = λ i lt. grind (arith, nat_tests, kept c d (is x) rule e i, turned c d (is x) rule e i, k.p i);
    m = λ i lt. grind (arith, nat_tests, kept c d (is x) rule e i, turned c d (is x) rule e i, k.m i);
  }

  -- a number that has a pointer is a node
  pub pointer_in : (g : ℕ → Regs) (c : Configuration) → Has g c → (i j : ℕ) → c.p i ≡ Some j → i < n
  pointer_in g c k i j e = omega (arith, (k.lawful.in_range i j (k.lawful.to_linked i j e)).0, k.size)

  module _ (r : RosterValue) (s : ℕ) (owned : (i : ℕ) → i < n → owns r (who.Student s) i ≡ true) where
    -- a run of a moves leads on from each world in which the registers are g
    abbrev pub Onward : ℕ → (ℕ → Regs) → Type 0
    Onward a g = (w : World) → IsWorld w → IsQuiet w → Has g (configuration w) → Goes a r w

    -- a run leads on from registers if one does from the same registers
    pub alike : (a : ℕ) (g h : ℕ → Regs) → ((i : ℕ) → i < n → g i ≡ h i) → Onward a h → Onward a g
    alike a g h same next w world quiet k = next w world quiet (grind (arith, k.p, k.m, same))

    -- if the rule may be applied at x and writes `to`, and a run of a moves leads on from the registers after this
    -- move, a run of a + 1 moves leads on from the registers before it
    pub play : (a x : ℕ) (rule : Rule) (g : ℕ → Regs) (to : Regs) → x < n
        → ((c : Configuration) → Has g c → (guard c x rule ≡ true) × ((effect c x rule).p ≡ to.p) × ((effect c x rule).m ≡ to.m))
        → Onward a (put g x to) → Onward (suc a) g
    play a x rule g to lt may next w world quiet k =
        let y = may (configuration w) k in
        let o = move r s w x rule world quiet (omega (arith, lt, k.size)) (owned x lt) y.0 in
        then_goes r s w x rule a o (next (after_move s w x rule) o.world o.quiet (written g x to rule _ _ k o.moved y.1 y.2))
