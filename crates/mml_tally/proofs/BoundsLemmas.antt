-- The bounds on moves and rounds, computed with n / 2 and n % 2.
use Rattle.std.proofs.Common.{◌≡◌, ◌⊎◌, inl, inr, ℕ, suc, ◌+◌, ◌-◌, ◌*◌, ◌/◌, ◌%◌, refl, sym, ap, ◌∙◌, arith}
use Rattle.mml_convergence.specs.{Rounds.rounds_for, Courtships.most_courtships}
use Rattle.mml_convergence.proofs.NumbersLemmas.{courtships_even, courtships_odd}

at_half : (n k : ℕ) → (n ≡ 2 * k) ⊎ (n ≡ 2 * k + 1) → k * (n - k) ≡ most_courtships n
at_half n k (inl even) = let rest : n - k ≡ k = omega (arith, even) in ap (λ z. k * z) rest ∙ sym (courtships_even k) ∙ ap most_courtships (sym even)
at_half n k (inr odd) =
    let rest : n - k ≡ k + 1 = omega (arith, odd) in
    let grown : k * (k + 1) ≡ k * k + k = omega arith in
    ap (λ z. k * z) rest ∙ grown ∙ sym (courtships_odd k) ∙ ap most_courtships (sym odd)

pub halves_court : (n : ℕ) → n / 2 * (n - n / 2) ≡ most_courtships n
halves_court n = at_half n (n / 2) (grind arith)

pub rounds_are : (n : ℕ) → 2 * n - n % 2 ≡ rounds_for n
rounds_are (suc (suc n)) = omega (arith, rounds_are n)
rounds_are _ = refl
