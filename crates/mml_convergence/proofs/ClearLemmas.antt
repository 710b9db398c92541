-- A run from a world in which each node has a pointer and m is true. One node after another updates, and then drops its
-- pointer.
use Rattle.std.proofs.Common.{◌≡◌, ℕ, zero, suc, ◌+◌, ◌*◌, ◌<◌, ◌≤◌, Bool, true, false, cond, nat_lt, Option, Some, List, length, sym, refl, ap, ◌∙◌, subst, arith, map}
use Rattle.std.proofs.lemmas.{Bool.cases_lt, Bool.Decides.nat_tests, List.FromFn.get_or-map-range_with_len, List.FromFn.length-map-range_with_len}
use Rattle.std.specs.List.{list_all, range_with_len}
use Rattle.mml_ids.specs.{declared.TheConstants.MAX_NODES, Sets.those_below}
use Rattle.mml_rules.specs.{declared.regs.Regs.Regs, declared.rule.Rule.Rule, Configuration.IsLawful, Configuration.holds, Network.no_regs, Network.registers_at}
use Rattle.mml_rules.proofs.RulesLemmas.{married-at}
use Rattle.mml_lab.specs.Rosters.{RosterValue, owns}
use Rattle.mml_board.specs.{declared.event.Event.Event, World.World, World.size, World.configuration, World.IsWorld, World.opening_of, Runs.is_legal_list}
use Rattle.mml_board.proofs.WorldLemmas.{none_at}
use Rattle.mml_convergence.specs.{Moves.applied_over, Rest.is_grant_or_close}
use Rattle.mml_convergence.proofs.{MoveLemmas.Onward, MoveLemmas.alike, MoveLemmas.play, IdleLemmas.may_update, IdleLemmas.may_abandon}
use Rattle.mml_lab.specs.declared.who.Who.TheVariants as who
use Rattle.mml_convergence.proofs.OpeningLemmas as opening

-- some legal list of grants and closes applies a moves
abbrev pub Applies : RosterValue → World → ℕ → Type 0
Applies r w a = (es : List Event) × (is_legal_list r w es ≡ true) × (list_all is_grant_or_close es ≡ true) × (applied_over w es ≡ a)

-- the registers after the nodes below i have made their moves; at first, node j has the pointer `first j`, and m is true
abbrev pub cleared : (ℕ → Option ℕ) → ℕ → ℕ → Regs
cleared first i j = cond (nat_lt j i) no_regs (record { p = first j; m = true })

-- a world of n nodes with links that a test defines, and with these pointers
module _ (n : ℕ) (test : ℕ → ℕ → Bool) (first : ℕ → Option ℕ) where
  abbrev opened : World
  opened = opening_of (record {
    neighbours = map (λ i. those_below n (test i)) (range_with_len 0 n);
    registers = map (λ i. record { p = first i; m = true }) (range_with_len 0 n);
  })

  unfoldable pub links : ℕ → ℕ → Bool
  links = (configuration opened).linked

  -- the world has n nodes
  pub sized : size opened ≡ n
  sized = length-map-range_with_len (λ i. record { p = first i; m = true }) 0 n

  registers_are : (i : ℕ) → i < n → registers_at opened.network.registers i ≡ record { p = first i; m = true }
  registers_are i lt = get_or-map-range_with_len (λ i. record { p = first i; m = true }) 0 n i i no_regs lt (omega arith)

  -- two nodes are linked if the test holds of them
  pub linked-from : (i j : ℕ) → i < n → j < n → test i j ≡ true → links i j ≡ true
  unfolding links
  linked-from = opening.linked-from n test opened.network.registers sized

  module _ (turns : (i j : ℕ) → test i j ≡ true → test j i ≡ true) (loops : (i : ℕ) → test i i ≡ true → ⊥)
      (points : (i j : ℕ) → i < n → first i ≡ Some j → (j < n) × (test i j ≡ true)) where
    -- the configuration and the world are lawful if links go both ways and join different nodes, and each node points at
    -- a node linked to it
    pub lawful : IsLawful (configuration opened)
    lawful = opening.first_lawful n test opened.network.registers sized turns loops
        (λ i j lt e. points i j lt (sym (ap (λ (g : Regs). g.p) (registers_are i lt)) ∙ e))

    pub is_world : n ≤ MAX_NODES → IsWorld opened
    is_world few = opening.first_world n test opened.network.registers sized lawful few

    module _ (r : RosterValue) (s : ℕ) (owned : (i : ℕ) → i < n → owns r (who.Student s) i ≡ true) (z : ℕ) (z_in : z ≤ n)
        (vain : (i : ℕ) → i < z → (j : ℕ) × (first i ≡ Some j) × (j < n) × (i ≡ j → ⊥) × (holds (first j) i ≡ false)) where
      turn : (i j a : ℕ) → i < n → first i ≡ Some j → j < n → (i ≡ j → ⊥) → holds (first j) i ≡ false → Onward n links r s owned a (cleared first (suc i))
          → Onward n links r s owned (suc (suc a)) (cleared first i)
      turn i j a lt e j_in other back next =
          play n links r s owned _ i Rule.Update _ (record { p = first i; m = false }) lt
          (λ c k. grind (arith, nat_tests, may_update, married-at c i j k.lawful, k.p i lt, k.p j j_in, k.m i lt))
          (play n links r s owned _ i Rule.Abandonment _ no_regs lt
          (λ c k. grind (arith, nat_tests, may_abandon, cases_lt, k.p i lt, k.p j j_in, k.m i lt, k.m j j_in))
          (alike n links r s owned _ _ (cleared first (suc i)) (grind (arith, nat_tests)) next))

      clear : (left i a b : ℕ) → i + left ≡ z → 2 * left + a ≡ b → Onward n links r s owned a (cleared first z) → Onward n links r s owned b (cleared first i)
      clear zero i a b e sum next =
          let same : z ≡ i = omega (arith, e) in
          let few : a ≡ b = omega (arith, sum) in
          subst (λ x. Onward n links r s owned b (cleared first x)) same (subst (λ x. Onward n links r s owned x (cleared first z)) few next)
      clear (suc left) i a b e sum next =
          let x = vain i (omega (arith, e)) in
          let more : suc (suc (2 * left + a)) ≡ b = omega (arith, sum) in
          subst (λ y. Onward n links r s owned y (cleared first i)) more
          (turn i x.0 _ (omega (arith, e, z_in)) x.1 x.2 x.3 x.4 (clear left (suc i) a _ (omega (arith, e)) refl next))

      -- if a run of a moves leads on after the nodes below z have updated and dropped their pointers, some list applies
      -- 2 * z + a moves
      pub clears : n ≤ MAX_NODES → (a b : ℕ) → 2 * z + a ≡ b → Onward n links r s owned a (cleared first z) → Applies r opened b
      unfolding links
      clears few a b sum next =
          let run = clear z 0 a b (omega arith) sum next opened (is_world few) (none_at (length opened.network.registers))
          (grind (arith, nat_tests, registers_are, sized, lawful)) in
          (run.events, run.legal, run.forward, run.ends)
