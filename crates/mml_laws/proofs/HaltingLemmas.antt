-- A halted book never changes, and grants nothing. The book of a house has its list of events and its journal.
use Rattle.std.proofs.{lemmas.Bool.Decides.nat_tests, Common.◌≡◌, Common.ℕ, Common.true, Common.List, Common.[], Common.◌∷◌, Common.arith}
use Rattle.std.specs.List.{AllByRecursion}
use Rattle.mml_lab.specs.{Labs.LabValue}
use Rattle.mml_window.specs.{declared.answer.Answer.Answer, Books.BookValue}
use Rattle.mml_laws.specs.Halting.{Act, DecidesEach, IsNoGrant}

module _ {S : Type 0} (lab : LabValue) (failures : S → ℕ) where
  pub all_stay : (old new : BookValue S) (acts : List Act) (answers : List Answer) → old.halted ≡ true → DecidesEach lab failures old acts answers new
      → (new ≡ old) × AllByRecursion IsNoGrant answers
  all_stay old new [] [] was each = (each, tt)
  all_stay old new (act ∷ acts) (a ∷ more) was each = grind (arith, nat_tests, each.1, all_stay each.0 new acts more)
  all_stay old new _ _ was each = absurd each
