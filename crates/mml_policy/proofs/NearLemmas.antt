-- The list of the neighbours of a node with their registers, built one neighbour at a time.
use Rattle.std.proofs.Common.{◌≡◌, ℕ, ◌+◌, [], ◌∷◌, ◌++◌, map, Bool, true, false, cond, ap, ◌∙◌, append-nil}
use Rattle.std.specs.{Ordering.nat_cmp, FinSet.FinSet, List.All, List.range_with_len}
use Rattle.std.proofs.lemmas.List.Elements.{All-map, All-weaker, filter_passes}
use Rattle.mml_ids.proofs.SetsLemmas.{ranks_in, passing, passing_more}
use Rattle.mml_rules.specs.{declared.regs.Regs.Regs, Network.neighbours_at, Network.registers_at}
use Rattle.mml_board.specs.World.{World, size, configuration}
use Rattle.mml_policy.specs.Shown.{near}

-- if n passes, the list for n + 1 is the list for n with f n appended
pub passing_with : {X : Type 0} (t : ℕ → Bool) (f : ℕ → X) (n : ℕ) → t n ≡ true → passing t f (n + 1) ≡ passing t f n ++ f n ∷ []
passing_with t f n e = passing_more t f n ∙ ap (λ b. passing t f n ++ map f (cond b (n ∷ []) [])) e

-- if n doesn't pass, the list for n + 1 is the list for n
pub passing_without : {X : Type 0} (t : ℕ → Bool) (f : ℕ → X) (n : ℕ) → t n ≡ false → passing t f (n + 1) ≡ passing t f n
passing_without t f n e = passing_more t f n ∙ ap (λ b. passing t f n ++ map f (cond b (n ∷ []) [])) e ∙ append-nil (passing t f n)

-- a neighbour as a look shows it, with its registers
abbrev pub shown : World → ℕ → ℕ × Regs
shown w j = (j, registers_at w.network.registers j)

-- the neighbours of node i, each with its registers, are the list `near`
pub near-is : (w : World) (i : ℕ) (s : FinSet nat_cmp) → s ≡ neighbours_at w.network.neighbours i → map (shown w) (ranks_in (size w) s) ≡ near w i
unfolding near
near-is w i s e = ap (λ (u : FinSet nat_cmp). map (shown w) (ranks_in (size w) u)) e

-- a fact that holds of each node linked to i, with its registers, holds of each item of `near`
pub near_hold : (P : ℕ × Regs → Type 0) (w : World) (i : ℕ) → ((j : ℕ) → (configuration w).linked i j ≡ true → P (shown w j)) → All P (near w i)
unfolding near
near_hold P w i each = All-map P _ _ (All-weaker _ _ each _ (filter_passes ((configuration w).linked i) (range_with_len 0 (size w))))
