-- What each event changes, and what it leaves as it was.
use Rattle.std.proofs.Common.{◌≡◌, ◌↔◌, ◌⊎◌, ℕ, ◌<◌, ◌+◌, Bool, true, false, cond, ◌&&◌, ◌||◌, eqb, None, List, length, arith}
use Rattle.std.proofs.lemmas.{Bool.eqb-true, Bool.and_parts, Bool.and_from, Bool.or_cases, Bool.or_left, Bool.or_right, Bool.both_ways, Bool.not-true, List.get_or-set_same, List.get_or-set_other}
use Rattle.mml_rules.specs.{declared.regs.Regs.Regs, Configuration.holds, Network.registers_at, Network.configuration_of, Network.unpointed, Network.with_link, Network.without_link}
use Rattle.mml_rules.proofs.NetworkLemmas.{registers_at-set, length-unpointed, both_are, are_both, linked-with_link, linked-without_link}
use Rattle.mml_board.specs.{declared.event.Event.Event, World.World, World.size, World.configuration, World.chosen_at, World.IsWorld, Events.after, Meaning.makes_configuration, Meaning.AreEnds}
use Rattle.mml_board.proofs.WorldLemmas.{none_at, closed-step, moved_at}

-- after a link, two nodes are linked exactly if they are its ends, or were linked before
pub linked-link : (w : World) (a b i j : ℕ) → IsWorld w → a < size w → b < size w
    → ((configuration_of (with_link w.network a b)).linked i j ≡ true) ↔ (AreEnds a b i j ⊎ ((configuration w).linked i j ≡ true))
linked-link w a b i j k la lb = grind (arith, linked-with_link, or_cases, both_are, or_right, or_left, are_both)

-- after a cut, two nodes are linked exactly if they were linked before, and aren't its ends
pub linked-cut : (w : World) (a b i j : ℕ) → IsWorld w → a < size w → b < size w
    → ((configuration_of (without_link w.network a b)).linked i j ≡ true) ↔ ((AreEnds a b i j → ⊥) × ((configuration w).linked i j ≡ true))
linked-cut w a b i j k la lb = grind (arith, linked-without_link, and_parts, both_ways, not-true, are_both, and_from, both_are)

-- the registers, with the pointer set to null if the test is true
abbrev pub nulled : Bool → Regs → Regs
nulled b r = record { p = cond b None r.p; m = r.m }

-- after a pointer from a to b is set to null, all other registers are as before
pub unpointed-at : (registers : List Regs) (a b i : ℕ) → a < length registers
    → registers_at (unpointed registers a b) i ≡ nulled (eqb i a && holds (registers_at registers i).p b) (registers_at registers i)
unpointed-at registers a b i l = grind (arith, eqb-true, registers_at-set)

-- after the pointers along a link are set to null, all other registers are as before
pub cut-at : (registers : List Regs) (a b i : ℕ) → a < length registers → b < length registers
    → registers_at (unpointed (unpointed registers a b) b a) i
    ≡ nulled ((eqb i a && holds (registers_at registers i).p b) || (eqb i b && holds (registers_at registers i).p a)) (registers_at registers i)
cut-at registers a b i la lb = grind (arith, unpointed-at, length-unpointed)

-- an event that leads to a new configuration drops all chosen moves
pub dropped : (w : World) (e : Event) (i : ℕ) → makes_configuration e ≡ true → chosen_at (after w e).chosen i ≡ None
dropped w e i h = grind (arith, none_at)

-- any other event changes neither the network nor the number of the configuration
pub same_configuration : (w : World) (e : Event) → makes_configuration e ≡ false → ((after w e).network ≡ w.network) × ((after w e).number ≡ w.number)
same_configuration w e h = grind arith

-- an event that leads to a new configuration increases the configuration's number by one
pub next_configuration : (w : World) (e : Event) → makes_configuration e ≡ true → (after w e).number ≡ w.number + 1
next_configuration w e h = grind arith

-- each event increases the number of events by one
pub next_place : (w : World) (e : Event) → (after w e).place ≡ w.place + 1
next_place w e = grind arith

-- what the laws of single events need
pub ruleset event_laws = (dropped, get_or-set_same, get_or-set_other, linked-link, linked-cut, cut-at, both_are, are_both, closed-step, moved_at)

-- what the law of the numbers needs
pub ruleset numbers = (same_configuration, next_configuration, next_place)
