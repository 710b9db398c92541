-- The stored set of the nodes with a chosen move agrees with the list of choices.
use Rattle.std.proofs.Common.{◌≡◌, ℕ, Bool, true, false, not, Option, None, is_some, List, [], length, zero, replicate, sym, ap, ◌∙◌, arith}
use Rattle.std.{specs.List.list_any, specs.FinSet.FinSet, specs.Ordering.nat_cmp, proofs.lemmas.List.take_at, proofs.lemmas.List.get_or_default, proofs.lemmas.List.Folds.list_any_at}
use Rattle.mml_ids.specs.inside.WordsLemmas.{has_empty}
use Rattle.mml_rules.specs.declared.rule.Rule.{Rule}
use Rattle.mml_board.specs.{inside.Kept.AreChosen}
use Rattle.mml_board.proofs.{WorldLemmas.length-none, WorldLemmas.none_at, WorldLemmas.same_lists, RowsLemmas.not_empty, WorldLemmas.chosen_within}
use Rattle.mml_ids.proofs.FindLemmas.{list_any-found}
use Rattle.std.specs.FinSet as sets

-- if `is_some` is false, the value is None
pub not_some : {X : Type 0} (o : Option X) → is_some o ≡ false → o ≡ None
not_some o h = grind arith

-- in a list without chosen moves, the nodes with a chosen move are the empty set
pub are_chosen-none : (n : ℕ) (s : FinSet nat_cmp) → s ≡ sets.empty → AreChosen (replicate n None) s
are_chosen-none n s e i = ap (λ t. sets.contains t i) e ∙ has_empty i ∙ sym (ap is_some (none_at n i))

-- what the functions that leave no chosen move need
pub ruleset without_moves = (are_chosen-none, length-none, take_at)

-- if the set of the nodes with a chosen move is empty, the list of choices has no move
pub all_dropped : (xs : List (Option Rule)) (s : FinSet nat_cmp) → AreChosen xs s → s ≡ sets.empty → xs ≡ replicate (length xs) None
all_dropped xs s are e = same_lists None xs _ (sym (length-none (length xs) None)) (λ i l. grind (arith, are i, has_empty i, none_at (length xs) i, not_some))

-- the set of the nodes with a chosen move is empty exactly if no move is chosen
pub any_chosen : (xs : List (Option Rule)) (s : FinSet nat_cmp) (b : Bool) → AreChosen xs s
    → (b ≡ true → s ≡ sets.empty) × (s ≡ sets.empty → b ≡ true) → not b ≡ list_any is_some xs
any_chosen xs s b are h =
    not_empty s b (list_any is_some xs) h
    (λ t. let f = (list_any-found is_some xs t).1 in (f.index, are f.index ∙ grind (arith, f.there, f.passes, f.within, get_or_default xs f.index)))
    (λ j q. let t = sym (are j) ∙ q in list_any_at is_some xs j None (chosen_within xs j t) t)
