-- A world at the beginning, with links that a test defines.
use Rattle.std.proofs.Common.{◌≡◌, ℕ, ◌<◌, ◌≤◌, Bool, true, false, ◌&&◌, nat_lt, nat_cmp, None, Some, List, length, map, ap, ◌∙◌, arith}
use Rattle.std.specs.List.{range_with_len}
use Rattle.std.proofs.lemmas.{Bool.and_from, Bool.lt-ltb, Bool.Decides.nat_tests, List.get_or_past, List.FromFn.get_or-map-range_with_len, List.FromFn.length-map-range_with_len}
use Rattle.mml_ids.specs.{declared.TheConstants.MAX_NODES, Sets.those_below, inside.WordsLemmas.has_empty, inside.WordsLemmas.has-those_below}
use Rattle.mml_rules.specs.{declared.regs.Regs.Regs, Configuration.Configuration, Configuration.IsLawful, Network.no_regs}
use Rattle.mml_board.specs.World.{World, opening_of, configuration, IsWorld}
use Rattle.mml_board.proofs.WorldLemmas.{length-none, hold-none}
use Rattle.std.specs.FinSet as sets

module _ (n : ℕ) (test : ℕ → ℕ → Bool) (registers : List Regs) (sized : length registers ≡ n) where
  abbrev opening : World
  opening = opening_of (record { neighbours = map (λ i. those_below n (test i)) (range_with_len 0 n); registers = registers })

  abbrev at_first : Configuration
  at_first = configuration opening

  pub first_linked : (i j : ℕ) → i < n → at_first.linked i j ≡ (nat_lt j n && test i j)
  first_linked i j lt =
      ap (λ (x : sets.FinSet nat_cmp). sets.contains x j)
      (get_or-map-range_with_len (λ i. those_below n (test i)) 0 n i i sets.empty lt (omega arith)) ∙ has-those_below n (test i) j

  rows : length opening.network.neighbours ≡ n
  rows = length-map-range_with_len (λ i. those_below n (test i)) 0 n

  unlinked : (i j : ℕ) → n ≤ i → at_first.linked i j ≡ false
  unlinked i j past = ap (λ (x : sets.FinSet nat_cmp). sets.contains x j) (get_or_past opening.network.neighbours i sets.empty (omega (arith, past, rows))) ∙ has_empty j

  pub linked-means : (i j : ℕ) → at_first.linked i j ≡ true → (i < n) × (j < n) × (test i j ≡ true)
  linked-means i j e = grind (arith, nat_tests, first_linked, unlinked)

  pub linked-from : (i j : ℕ) → i < n → j < n → test i j ≡ true → at_first.linked i j ≡ true
  linked-from i j a b e = first_linked i j a ∙ and_from _ _ (lt-ltb j n b) e

  -- past the last node, all pointers are null
  pub null_past : (i : ℕ) → n ≤ i → at_first.p i ≡ None
  null_past i past = ap (λ (g : Regs). g.p) (get_or_past registers i no_regs (omega (arith, past, sized)))

  pub first_lawful : ((i j : ℕ) → test i j ≡ true → test j i ≡ true) → ((i : ℕ) → test i i ≡ true → ⊥)
      → ((i j : ℕ) → i < n → at_first.p i ≡ Some j → (j < n) × (test i j ≡ true)) → IsLawful at_first
  first_lawful turns loops points = grind (arith, nat_tests, linked-means, linked-from, null_past)

  pub first_world : IsLawful at_first → n ≤ MAX_NODES → IsWorld opening
  first_world lawful few = grind (arith, nat_tests, rows, length-none, hold-none)
