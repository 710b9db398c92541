-- The four rounds of a phase, in which each close applies one move.
use Rattle.std.proofs.Common.{◌≡◌, ℕ, suc, ◌+◌, ◌*◌, ◌<◌, ◌≤◌, Bool, true, false}
use Rattle.mml_ids.specs.Search.{count_below}
use Rattle.mml_rules.specs.{declared.rule.Rule.Rule, Configuration.Configuration, Rules.is_privileged}
use Rattle.mml_lab.specs.Rosters.{RosterValue, owns}
use Rattle.mml_board.specs.World.{World, configuration, IsWorld}
use Rattle.mml_convergence.proofs.{MoveLemmas.GoesOn, MoveLemmas.IsQuiet, MoveLemmas.IsMoved, SinglyLemmas.Stands, SinglyLemmas.single_round}
use Rattle.mml_convergence.proofs.PhaseLemmas.{Seated, Courted, Engaged, Wed, courts, marries_now, learns, leaves, seated_others, then_courted, courted_others, then_engaged, engaged_others, then_wed}
use Rattle.mml_convergence.proofs.PhaseLemmas.{wed_others, then_free}
use Rattle.mml_convergence.proofs.OneByOneLemmas.{courts_stand, marriage_stands, updates_stand, abandonments_stand}
use Rattle.mml_lab.specs.declared.who.Who.TheVariants as who

-- A is true of the world u and of the sum of x and the moves of one round: one move for each node below n for which t
-- is true
abbrev pub Later : (World → ℕ → Type 0) → ℕ → (ℕ → Bool) → World → ℕ → Type 0
Later A n t u x = A u (count_below n t + x)

module _ (r : RosterValue) (s n : ℕ) (low : ℕ → Bool) (owned : (i : ℕ) → i < n → owns r (who.Student s) i ≡ true) where
  -- from each world of which P holds, a run with k rounds leads to a world of which A holds
  abbrev pub Onward : (World → ℕ → Type 0) → ℕ → (Configuration → Type 0) → Type 0
  Onward A k P = (u : World) → IsWorld u → IsQuiet u → P (configuration u) → GoesOn A r u k

  module _ (p b : ℕ) (sum : p + b + 1 ≡ n) (room : 2 * p + 2 ≤ n) (A : World → ℕ → Type 0) where
    -- a round, in which the nodes that pass t apply a rule
    round : (k : ℕ) (t : ℕ → Bool) (rule : Rule) (P Q : Configuration → Type 0) → ((c : Configuration) → P c → c.size ≡ n)
        → ((c : Configuration) → P c → Stands c t rule)
        → ((c : Configuration) → P c → (i : ℕ) → i < c.size → t i ≡ false → is_privileged c i ≡ false)
        → ((c d : Configuration) → P c → IsMoved c d t rule → Q d) → Onward (Later A n t) k Q → Onward A (suc k) P
    round k t rule P Q size stand others then next w world quiet at =
        single_round A r s k n t rule w world quiet (size _ at) owned (stand _ at) (others _ at) (λ u ku qu moved. next u ku qu (then _ _ at moved))

    pub court : (k : ℕ) → Onward (Later A n (courts n low p b sum room)) k (Courted n low p b sum room) → Onward A (suc k) (Seated n low p)
    court k =
        round k (courts n low p b sum room) Rule.Seduction _ _ (λ c at. at.shape.size) (courts_stand n low p b sum room) (seated_others n low p b sum room)
        (then_courted n low p b sum room)

    pub marry : (k : ℕ) → Onward (Later A n (marries_now n low p b sum room)) k (Engaged n low p b sum room) → Onward A (suc k) (Courted n low p b sum room)
    marry k =
        round k (marries_now n low p b sum room) (Rule.Marriage p) _ _ (λ c at. at.shape.size) (marriage_stands n low p b sum room)
        (courted_others n low p b sum room) (then_engaged n low p b sum room)

    pub learn : (k : ℕ) → Onward (Later A n (learns n low p b sum room)) k (Wed n low p b sum room) → Onward A (suc k) (Engaged n low p b sum room)
    learn k =
        round k (learns n low p b sum room) Rule.Update _ _ (λ c at. at.shape.size) (updates_stand n low p b sum room) (engaged_others n low p b sum room)
        (then_wed n low p b sum room)

    leave : (k : ℕ) → Onward (Later A n (leaves n low p b sum room)) k (Seated n low (suc p)) → Onward A (suc k) (Wed n low p b sum room)
    leave k =
        round k (leaves n low p b sum room) Rule.Abandonment _ _ (λ c at. at.shape.size) (abandonments_stand n low p b sum room) (wed_others n low p b sum room)
        (then_free n low p b sum room)

  -- if k rounds lead on from the world after a phase, k + 4 rounds lead on from the world before it; the moves of each of
  -- the four rounds are added to those of the k rounds
  pub phase : (p b : ℕ) (sum : p + b + 1 ≡ n) (room : 2 * p + 2 ≤ n) (A : World → ℕ → Type 0) (k : ℕ)
      → Onward (Later (Later (Later (Later A n (courts n low p b sum room)) n (marries_now n low p b sum room)) n (learns n low p b sum room)) n
      (leaves n low p b sum room)) k (Seated n low (suc p))
      → Onward A (suc (suc (suc (suc k)))) (Seated n low p)
  phase p b sum room A k next =
      court p b sum room A _ (marry p b sum room _ _ (learn p b sum room _ _ (leave p b sum room _ k next)))
