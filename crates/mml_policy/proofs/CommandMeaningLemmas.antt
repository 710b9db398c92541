-- When a close or a fault is granted or denied.
use Rattle.std.proofs.lemmas.{Bool.Decides.nat_tests, Bool.false_from_ne_true, List.get_or_default, List.Folds.list_any_at, List.Folds.Any-from_list_any}
use Rattle.std.proofs.Common.{◌≡◌, ℕ, Bool, true, false, List, Option, Some, None, is_some, refl, arith}
use Rattle.std.specs.List.{list_any}
use Rattle.mml_ids.specs.Ids.{rank_in}
use Rattle.mml_rules.specs.declared.rule.Rule.{Rule}
use Rattle.mml_lab.specs.{declared.who.Who.Who, Rosters.RosterValue}
use Rattle.mml_board.specs.{declared.denial.Denial.TheVariants.BadRegister, World.World, World.configuration, World.chosen_at}
use Rattle.mml_board.proofs.WorldLemmas.{chosen_within}
use Rattle.mml_policy.specs.{Denied.IsDecided, Denied.DeniesFault, Meaning.MayFault, Meaning.IsNamed, Meaning.IsRegister, Verdicts.verdict}
use Rattle.mml_policy.specs.declared.command.Command.TheVariants as command
use Rattle.mml_policy.specs.declared.verdict.Verdict.TheVariants as verdicts

-- if some move is chosen, some node has a chosen move
pub chosen_some : (chosen : List (Option Rule)) → list_any is_some chosen ≡ true → (i : ℕ) × (q : Rule) × (chosen_at chosen i ≡ Some q)
chosen_some chosen h =
    let found = Any-from_list_any is_some chosen h in
    let at : is_some (chosen_at chosen found.0) ≡ true = grind (arith, get_or_default) in
    grind arith

-- if a node has a chosen move, some move is chosen
pub some_chosen : (chosen : List (Option Rule)) (i : ℕ) (q : Rule) → chosen_at chosen i ≡ Some q → list_any is_some chosen ≡ true
some_chosen chosen i q h = grind (arith, chosen_within, list_any_at)

module _ (ids : List ℕ) (r : RosterValue) (w : World) (x : Who) (id : ℕ) (m : Bool) where
  -- a pointer that is neither null nor a neighbour's identifier is some y, and no node with the identifier y is linked to i
  misses : (p : Option ℕ) (i : ℕ) → ((q : Option ℕ) → IsNamed ids p q → ¬ IsRegister w i q)
      → (y : ℕ) × (p ≡ Some y) × ((j : ℕ) → rank_in ids y ≡ Some j → (configuration w).linked i j ≡ false)
  misses None i none = absurd (none None refl tt)
  misses (Some y) i none = (y, refl, λ j e. false_from_ne_true ((configuration w).linked i j) (none (Some j) (j, e, refl)))

  bad_register : (p : Option ℕ) → DeniesFault ids w x id p BadRegister → verdict ids r w x (command.Fault id p m) ≡ verdicts.Deny BadRegister
  bad_register p h = grind (arith, nat_tests, misses p h.0 h.2)

  -- when a fault is granted, and why it is denied
  pub fault_decided : (p : Option ℕ) → IsDecided ids r w x (command.Fault id p m) (MayFault ids w id p m) (DeniesFault ids w x id p)
  fault_decided p = record { granted = λ e. grind (arith, nat_tests); denied = λ d. (grind (arith, nat_tests), grind (arith, nat_tests, bad_register p)) }
