-- The world after an event is lawful if the world before it is.
use Rattle.std.proofs.Common.{◌≡◌, ℕ, ◌<◌, zero, true, cond, eqb, Option, None, Some, is_some, List, length, get_or, set, replicate, sym, refl, ◌∙◌, subst, arith}
use Rattle.std.proofs.Common.{length-set, get_or-set_same, get_or-set_other}
use Rattle.std.proofs.lemmas.Bool.{Decides.nat_tests, cases_eq, cases_lt, eq-eqb, ne_eqb, eqb-true, both_ways}
use Rattle.std.proofs.lemmas.List.{get_or_past, get_or-replicate, length-replicate, FromFn.fill_by_all, FromFn.get_or-map-range_with_len, FromFn.length-map-range_with_len}
use Rattle.mml_rules.specs.{declared.rule.Rule.Rule, Configuration.Configuration, Configuration.IsLawful, Rules.guard, Rules.moved, Rules.step, Rules.AllHold, Rules.IsWithin}
use Rattle.mml_rules.specs.Network.{Network, no_regs, neighbours_at, registers_at, configuration_of, IsNetwork, unpointed, with_registers, with_link, without_link}
use Rattle.mml_rules.proofs.StepLemmas.{effect-linked, step-lawful}
use Rattle.mml_rules.proofs.NetworkLemmas.{length-unpointed, with_registers-lawful, with_link-lawful, without_link-lawful}
use Rattle.mml_board.specs.{declared.event.Event.Event, World.World, World.size, World.configuration, World.chosen_at, World.IsWorld}
use Rattle.mml_board.proofs.ClausesLemmas.{is_fit, fit}
use Rattle.mml_board.specs.Events.{is_possible, moved_registers, renewed, choosing, after}
use Rattle.std.specs.FinSet as sets

-- applying the chosen moves keeps the number of nodes
pub length-moved_registers : (w : World) → length (moved_registers w) ≡ length w.network.registers
unfolding moved_registers
length-moved_registers w = length-map-range_with_len (λ i. moved (configuration w) i (chosen_at w.chosen i)) 0 (size w)

-- after the chosen moves are applied, each rank has the registers that `moved` returns, even a rank past the last node
pub moved_at : (w : World) → length w.chosen ≡ length w.network.registers → (i : ℕ)
    → registers_at (moved_registers w) i ≡ moved (configuration w) i (chosen_at w.chosen i)
unfolding moved_registers
moved_at w e i = grind (arith, cases_lt, get_or-map-range_with_len, get_or_past, length-moved_registers)

-- the network after a close
abbrev pub closed : World → Network
closed w = record { neighbours = w.network.neighbours; registers = moved_registers w }

-- if each node has its registers after its chosen move, and the links are as before, the network is the one after a close
pub moved-closed : (w : World) (n : Network) → IsWorld w → n.neighbours ≡ w.network.neighbours → length n.registers ≡ size w
    → ((i : ℕ) → registers_at n.registers i ≡ moved (configuration w) i (chosen_at w.chosen i)) → n ≡ closed w
unfolding moved_registers
moved-closed w n k neighbours size h =
    let all = fill_by_all (λ i. moved (configuration w) i (chosen_at w.chosen i)) n.registers (length w.network.registers) no_regs size (λ k l. h k) in
    grind (arith, neighbours, all)

-- a close is a step of the rules
pub closed-step : (w : World) → length w.chosen ≡ length w.network.registers → configuration_of (closed w) ≡ step (configuration w) (chosen_at w.chosen)
closed-step w e = grind (arith, length-moved_registers, moved_at)

-- the network is lawful after a close
pub closed-network : (w : World) → IsWorld w → IsNetwork (closed w)
closed-network w k = record {
  rows = k.network.rows ∙ sym (length-moved_registers w);
  few = omega (arith, k.network.few, length-moved_registers w);
  lawful = subst (λ c. IsLawful c) (sym (closed-step w k.choices)) (step-lawful (configuration w) (chosen_at w.chosen) k.network.lawful k.hold);
}

-- a list of n equal choices has the length n
pub length-none : (n : ℕ) (o : Option Rule) → length (replicate n o) ≡ n
length-none n o = length-replicate n o

-- in a list without a chosen move, no node has a chosen move
pub none_at : (n i : ℕ) → chosen_at (replicate n None) i ≡ None
none_at n i = grind (arith, cases_lt, get_or-replicate, get_or_past, length-replicate)

-- if no move is chosen, the guards of all chosen moves hold
pub hold-none : (n : ℕ) (c : Configuration) → AllHold c (chosen_at (replicate n None))
hold-none n c i r h = let e : None ≡ Some r = sym (none_at n i) ∙ h in cc

-- a world with a lawful network of the same size and without chosen moves is lawful
pub renewed-world : (w : World) (n : Network) → IsNetwork n → length n.registers ≡ size w → IsWorld (renewed w n)
renewed-world w n k e = grind (arith, length-none, hold-none)

-- after the choice of node a is set to o, a has this choice, and all others are as before
pub chosen_at-set : (chosen : List (Option Rule)) (a i : ℕ) (o : Option Rule) → a < length chosen
    → chosen_at (set chosen a o) i ≡ cond (eqb i a) o (chosen_at chosen i)
chosen_at-set chosen a i o l = grind (arith, cases_eq, get_or-set_same, eq-eqb, get_or-set_other, ne_eqb)

-- a lawful world stays lawful if a node gets a move whose guard holds, or no move
pub choosing-world : (w : World) (a : ℕ) (o : Option Rule) → a < size w → ((r : Rule) → o ≡ Some r → guard (configuration w) a r ≡ true) → IsWorld w
    → IsWorld (choosing w a o)
choosing-world w a o l h k = grind (arith, length-set, chosen_at-set, eqb-true)

-- if a rank has a chosen move, it is less than the length of the list
pub chosen_within : (xs : List (Option Rule)) (i : ℕ) → is_some (chosen_at xs i) ≡ true → i < length xs
chosen_within xs i h = grind (arith, cases_lt, both_ways, get_or_past)

-- if a rank has a chosen move, it is a node
pub chosen_node : (w : World) (i : ℕ) → length w.chosen ≡ size w → is_some (chosen_at w.chosen i) ≡ true → i < size w
chosen_node w i e h = let l = chosen_within w.chosen i h in omega (arith, e, l)

-- if the guard of a rule holds, the partner that it names is a node
pub partner_within : (c : Configuration) (i : ℕ) (r : Rule) → IsLawful c → guard c i r ≡ true → IsWithin c.size r
partner_within c i r l h = grind (arith, effect-linked)

-- a cut keeps the number of nodes
pub length-without_link : (n : Network) (a b : ℕ) → length (without_link n a b).registers ≡ length n.registers
length-without_link n a b = length-unpointed (unpointed n.registers a b) b a ∙ length-unpointed n.registers a b

-- the world after an event that passes the tests of `is_fit` is lawful
after_fit : (w : World) (e : Event) → IsWorld w → is_fit w e ≡ true → IsWorld (after w e)
after_fit w (Event.Grant s i rule) k h = grind (arith, nat_tests, choosing-world w i (Some rule))
after_fit w (Event.Release i) k h = choosing-world w i None (chosen_node w i k.choices h) (λ r e. cc) k
after_fit w Event.Close k h = renewed-world w (closed w) (closed-network w k) (length-moved_registers w)
after_fit w (Event.Fault i registers) k h =
    renewed-world w (with_registers w.network i registers) (grind (arith, nat_tests, with_registers-lawful)) (length-set w.network.registers i registers)
after_fit w (Event.Link a b) k h = renewed-world w (with_link w.network a b) (grind (arith, nat_tests, with_link-lawful w.network a b)) refl
after_fit w (Event.Cut a b) k h =
    let l = k.network.lawful.in_range a b h in
    renewed-world w (without_link w.network a b) (without_link-lawful w.network a b k.network l.0 l.1) (length-without_link w.network a b)

-- the world after a possible event is lawful
pub after-world : (w : World) (e : Event) → IsWorld w → is_possible w e ≡ true → IsWorld (after w e)
after-world w e k h = after_fit w e k (fit w e h)

-- two lists of the same length with the same elements are equal
pub same_lists : {X : Type 0} (d : X) (xs ys : List X) → length xs ≡ length ys → ((k : ℕ) → k < length xs → get_or xs k d ≡ get_or ys k d) → xs ≡ ys
same_lists d xs ys e h =
    fill_by_all (λ k. get_or ys k d) xs (length ys) d e (λ k l. h k (omega arith)) ∙ sym (fill_by_all (λ k. get_or ys k d) ys (length ys) d refl (λ k l. refl))

-- two worlds with the same numbers, and with the same registers, choices and neighbours at each node, are equal
pub same_worlds : (v w : World) → IsWorld v → IsWorld w → v.number ≡ w.number → v.place ≡ w.place → size v ≡ size w
    → ((i : ℕ) → i < size v → (registers_at v.network.registers i ≡ registers_at w.network.registers i) × (chosen_at v.chosen i ≡ chosen_at w.chosen i)
    × (neighbours_at v.network.neighbours i ≡ neighbours_at w.network.neighbours i))
    → v ≡ w
same_worlds v w k l number place size h =
    let rows = same_lists sets.empty v.network.neighbours w.network.neighbours in
    let registers = same_lists no_regs v.network.registers w.network.registers in
    let chosen = same_lists None v.chosen w.chosen in
    grind (arith, rows, registers, chosen)

-- an event keeps the number of nodes
pub size-after : (w : World) (e : Event) → size (after w e) ≡ size w
size-after w e = grind (arith, length-moved_registers, length-set, length-without_link)
