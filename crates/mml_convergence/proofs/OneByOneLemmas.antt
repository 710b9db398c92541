-- In a phase, a rule may still be applied at a node, with the same effect, after other nodes have moved.
use Rattle.std.proofs.Common.{◌≡◌, ℕ, suc, ◌+◌, ◌*◌, ◌<◌, ◌≤◌, Bool, true, false, None, Some, sym, ◌∙◌, arith}
use Rattle.std.proofs.lemmas.Bool.{cases_Bool, ne_eqb, eqb-true, or_cases, false_from_ne_true, Decides.nat_tests}
use Rattle.mml_rules.specs.{declared.rule.Rule.Rule, Configuration.Configuration, Meaning.IsCandidate}
use Rattle.mml_rules.proofs.RulesLemmas.{married-null, married-from}
use Rattle.mml_convergence.proofs.{MoveLemmas.kept, MoveLemmas.turned, SinglyLemmas.Stands, SinglyLemmas.above, SinglyLemmas.above_in, SinglyLemmas.above_off, SinglyLemmas.above_out}
use Rattle.mml_convergence.proofs.IdleLemmas.{may_update, may_marry, may_abandon, may_seduce, seduces_greatest}
use Rattle.mml_convergence.proofs.PhaseLemmas.{Seated, Courted, Engaged, Wed, courts, marries_now, learns, leaves, courts-means, leaves-means, shaped, owner_in, some_same, seated_free, candidate, greatest}
use Rattle.mml_convergence.proofs.PhaseLemmas.{wed_pair, groom, seduces_b}

-- nodes with a null pointer and m true may still update after other nodes have updated
pub first_updates_stand : (c : Configuration) (t : ℕ → Bool) → ((i : ℕ) → i < c.size → (c.p i ≡ None) × (c.m i ≡ true)) → Stands c t Rule.Update
first_updates_stand c t all d i lt on e = grind (arith, nat_tests, kept, above, above_off, married-null, may_update)

module _ (n : ℕ) (low : ℕ → Bool) (r b : ℕ) (sum : r + b + 1 ≡ n) (room : 2 * r + 2 ≤ n) where
  pub courts_stand : (c : Configuration) → Seated n low r c → Stands c (courts n low r b sum room) Rule.Seduction
  courts_stand c k d i lt on e =
      let same = still i lt (above_off t (suc i) i (omega arith)) in
      let to_c = seduces_b n low r b sum room c k i x.0 x.1 x.2 in
      let to_d = seduces_greatest d e.lawful i b candidate_now greatest_now in
      (may_seduce d e.lawful i b (same.0 ∙ free.0) (same.1 ∙ free.1) nobody candidate_now, to_d ∙ sym to_c, same.1)
    where
      t : ℕ → Bool
      t = courts n low r b sum room

      x : (r ≤ i) × (i < b) × (low i ≡ true)
      x = courts-means n low r b sum room i on

      free : (c.p i ≡ None) × (c.m i ≡ false)
      free = k.free i x.0 (omega (arith, x.1, sum))

      still : (j : ℕ) → j < c.size → above t (suc i) j ≡ false → (d.p j ≡ c.p j) × (d.m j ≡ c.m j)
      still j j_in off = kept c d (above t (suc i)) Rule.Seduction e j j_in off

      -- b and the nodes above it don't move
      high_off : (j : ℕ) → b ≤ j → above t (suc i) j ≡ false
      high_off j ge = above_out t (suc i) j (false_from_ne_true (t j) (λ is. let y = courts-means n low r b sum room j is in omega (arith, y.1, ge)))

      candidate_now : IsCandidate d i b
      candidate_now = grind (arith, nat_tests, candidate n low r b sum room c k i x.0 x.1 x.2, still b (omega (arith, sum, k.shape.size)) (high_off b (omega arith)))

      greatest_now : (j : ℕ) → IsCandidate d i j → j ≤ b
      greatest_now j y =
          let linked = sym (e.linked i j) ∙ y.0 in
          let range = k.shape.lawful.in_range i j linked in
          grind (arith, nat_tests, high_off j, still j range.1, greatest n low r b sum room c k i j)

      seduces : (j : ℕ) → j < c.size → above t (suc i) j ≡ true → d.p j ≡ Some b
      seduces j j_in moved =
          let y = courts-means n low r b sum room j (above_in t (suc i) j moved).0 in
          (turned c d (above t (suc i)) Rule.Seduction e j j_in moved).0 ∙ seduces_b n low r b sum room c k j y.0 y.1 y.2

      nobody : (j : ℕ) → d.p j ≡ Some i → ⊥
      nobody j points =
          let j_in = owner_in n low d (shaped c d (above t (suc i)) Rule.Seduction e n low k.shape) j i points in
          grind (arith, nat_tests, j_in, cases_Bool, seduces j, still j, some_same b i, seated_free n low r b sum room c k i j)

  pub marriage_stands : (c : Configuration) → Courted n low r b sum room c → Stands c (marries_now n low r b sum room) (Rule.Marriage r)
  marriage_stands c k d i lt on e = grind (arith, nat_tests, may_marry, marries_now, kept, above, above_in)

  pub updates_stand : (c : Configuration) → Engaged n low r b sum room c → Stands c (learns n low r b sum room) Rule.Update
  updates_stand c k d i lt on e = grind (arith, nat_tests, or_cases, eqb-true, groom, above, learns, turned, kept, above_off, married-from, may_update)

  pub abandonments_stand : (c : Configuration) → Wed n low r b sum room c → Stands c (leaves n low r b sum room) Rule.Abandonment
  abandonments_stand c k d i lt on e = grind (arith, nat_tests, leaves-means, leaves, wed_pair, kept, above, above_off, above_out, false_from_ne_true, may_abandon, ne_eqb)
