-- Lemmas about chains of steps that may fail, and about the first of several errors.
use Rattle.std.proofs.Common.{◌≡◌, Bool, true, false, Option, None, Result, Ok, Err, ap, ◌∙◌, arith}
use Rattle.std.specs.{Prelude.option_map, Result.IfOk, Result.IfErr}
use Rattle.mml_ids.specs.Gives.{◌>>=◌, ◌>>◌, need, first_fault, fault_if}

-- if the chain of s and f succeeds with v, then s succeeds with some a, and f a succeeds with v
pub bind-ok : {A B E : Type 0} (s : Result A E) (f : A → Result B E) (v : B) → (s >>= f) ≡ Ok v → (a : A) × (s ≡ Ok a) × (f a ≡ Ok v)
bind-ok s f v h = grind arith

-- if s succeeds with a, the result of the chain of s and f is that of f a
pub bind-from : {A B E : Type 0} (s : Result A E) (f : A → Result B E) (v : Result B E) (a : A) → s ≡ Ok a → f a ≡ v → (s >>= f) ≡ v
bind-from s f v a e h = ap (λ t. t >>= f) e ∙ h

-- if `need b e` followed by t succeeds with v, then b is true, and t succeeds with v
pub need-ok : {B E : Type 0} (b : Bool) (e : E) (t : Result B E) (v : B) → (need b e >> t) ≡ Ok v → (b ≡ true) × (t ≡ Ok v)
need-ok b e t v h = grind arith

-- if b is true, the result of `need b e` followed by t is that of t
pub need-from : {B E : Type 0} (b : Bool) (e : E) (t v : Result B E) → b ≡ true → t ≡ v → (need b e >> t) ≡ v
need-from b e t v h same = ap (λ c. need c e >> t) h ∙ same

-- if P holds of each value that f may return after s, P holds of each value that their chain may return
pub bind-if : {A B E : Type 0} (P : B → Type 0) (s : Result A E) (f : A → Result B E) → ((a : A) → s ≡ Ok a → IfOk (f a) P) → IfOk (s >>= f) P
bind-if P s f h = grind arith

-- if P holds of each value that t may return, P holds of each value that `need b e` followed by t may return
pub need-if : {B E : Type 0} (P : B → Type 0) (b : Bool) (e : E) (t : Result B E) → (b ≡ true → IfOk t P) → IfOk (need b e >> t) P
need-if P b e t h = grind arith

-- if P holds of each error of s, and of each error of f after s, P holds of each error of their chain
pub bind-deny : {A B E : Type 0} (P : E → Type 0) (s : Result A E) (f : A → Result B E) → ((e : E) → s ≡ Err e → P e) → ((a : A) → s ≡ Ok a → IfErr (f a) P)
    → IfErr (s >>= f) P
bind-deny P s f h k = grind arith

-- if P holds of d when b is false, and of each error of t when b is true, P holds of each error of `need b d` followed
-- by t
pub need-deny : {B E : Type 0} (P : E → Type 0) (b : Bool) (d : E) (t : Result B E) → (b ≡ false → P d) → (b ≡ true → IfErr t P) → IfErr (need b d >> t) P
need-deny P b d t h k = grind arith

-- if the first steps of two chains are equal, and their second steps return the same, both chains have the same result
pub bind-same : {A B E : Type 0} (s t : Result A E) (f g : A → Result B E) → s ≡ t → ((a : A) → s ≡ Ok a → f a ≡ g a) → (s >>= f) ≡ (t >>= g)
bind-same s t f g e h = grind arith

-- if two conditions are equal, and also their errors and the steps after them, both chains have the same result
pub need-same : {B E : Type 0} (b c : Bool) (d e : E) (t u : Result B E) → b ≡ c → d ≡ e → (b ≡ true → t ≡ u) → (need b d >> t) ≡ (need c e >> u)
need-same b c d e t u p q h = grind arith

-- if the first of two errors is absent, both errors are absent
pub both_none : {E : Type 0} (a b : Option E) → first_fault a b ≡ None → (a ≡ None) × (b ≡ None)
both_none a b h = grind arith

-- if `fault_if b e` is absent, b is false
pub if_none : {E : Type 0} (b : Bool) (e : E) → fault_if b e ≡ None → b ≡ false
if_none b e h = grind arith

-- if `option_map f o` is absent, o is absent
pub map_none : {A B : Type 0} (f : A → B) (o : Option A) → option_map f o ≡ None → o ≡ None
map_none f o h = grind arith
