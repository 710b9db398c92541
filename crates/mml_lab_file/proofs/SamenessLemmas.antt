-- A fact that holds of each number below n and of n itself holds of each number below n + 1.
use Rattle.std.proofs.{Common.ℕ, Common.◌+◌, Common.◌<◌, Common.sym, Common.subst, Common.arith, Common.inl, Common.inr, lemmas.Bool.cases_eq}

pub all_next : (P : ℕ → Type 0) (n : ℕ) → ((i : ℕ) → i < n → P i) → P n → (i : ℕ) → i < n + 1 → P i
all_next P n below here i within = elim (cases_eq i n) [ inl same ↦ subst P (sym same) here | inr other ↦ below i (omega (arith, other, within)) ]
