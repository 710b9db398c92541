-- Sets of ranks.
use Rattle.std.specs.{Prelude.ℕ, Prelude.zero, Prelude.suc, Prelude.Bool, Prelude.if◌then◌else◌, Ordering.nat_cmp, FinSet.FinSet, Coded.Coded, Coded.coded_ℕ}
use Rattle.std.specs.FinSet as set

-- the numbers below n that pass the test
unfoldable pub those_below : ℕ → (ℕ → Bool) → FinSet nat_cmp
those_below zero test = set.empty
those_below (suc n) test = if test n then set.insert (those_below n test) n else those_below n test

-- the code of a set of ranks: sets with the same code are equal
abbrev pub node_set_code : Coded (FinSet nat_cmp)
node_set_code = set.code coded_ℕ
