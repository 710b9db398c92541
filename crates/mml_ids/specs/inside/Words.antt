-- How a set of ranks is stored in words of 64 bits.
use Rattle.std.specs.Prelude.{ℕ, zero, suc, Bool, ◌≡◌, ◌<◌, ◌+◌, ◌*◌, ◌/◌, ◌%◌, ◌^◌, ◌==◌, if◌then◌else◌, List, map, length, slice_index}
use Rattle.std.specs.{Int.bit_at, List.range_with_len, Ordering.nat_cmp, FinSet.FinSet}
use Rattle.mml_ids.specs.Sets.{those_below}
use Rattle.std.specs.FinSet as set

-- the bit of rank k is 1
abbrev pub bit_in : List ℕ → ℕ → Bool
bit_in words k = bit_at (slice_index words (k / 64)) (k % 64) == 1

-- the ranks below n whose bits are 1
unfoldable pub set_of : ℕ → List ℕ → FinSet nat_cmp
set_of n words = those_below n (bit_in words)

-- the number below 2 ^ n whose bit at an index is one exactly if the index passes the test
abbrev pub ones_at : ℕ → (ℕ → Bool) → ℕ
ones_at zero test = 0
ones_at (suc n) test = (if test n then 1 else 0) * 2 ^ n + ones_at n test

-- the word with index w of the words that store the set s
abbrev pub word_of : FinSet nat_cmp → ℕ → ℕ
word_of s w = ones_at 64 (λ k. set.contains s (64 * w + k))

-- the n words that store a set
unfoldable pub words_of : ℕ → FinSet nat_cmp → List ℕ
words_of n s = map (word_of s) (range_with_len 0 n)

-- n words of 64 bits
pub record AreWords (n : ℕ) (words : List ℕ) : Type 0 where
  pub count : length words ≡ n
  pub each : (w : ℕ) → w < n → slice_index words w < 2 ^ 64
