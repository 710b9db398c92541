-- What holds after a node's turn: in any run, or as long as the number of married nodes doesn't grow. A node has its
-- turn if it isn't privileged at some moment, or moves. A suitor of a node is a node that points at it.
use Rattle.std.proofs.Common.{◌≡◌, ℕ, ◌+◌, ◌<◌, ◌≤◌, ◌⊎◌, inl, inr, false, ◌∙◌, Option, Some, arith, rules}
use Rattle.std.proofs.lemmas.Bool.Decides.{nat_tests}
use Rattle.mml_rules.specs.{declared.rule.Rule.Rule, Configuration.Configuration, Configuration.IsLawful, Rules.is_privileged, Rules.step, Rules.AllHold}
use Rattle.mml_stable.proofs.MatchingLemmas.{idle-quiet, idle-settled, quiet-alone, no_open_link}
use Rattle.mml_convergence.proofs.MarriedCountLemmas.{married_count, married_kept, grows, Calm}
use Rattle.mml_convergence.proofs.StagesLemmas.{Modest, Upward, Aware, Hopeful, Each, IsOpen, IsCourting, IsCourted, IsLone, IsRising, IsFacing, rising_stays, facing_moves, facing_stays}
use Rattle.mml_convergence.proofs.StagesLemmas.{lone_stays, upward_idle, hopeful_idle, modest_stays, modest_moves, upward_stays, upward_moves}
use Rattle.mml_convergence.proofs.StagesLemmas.{aware_stays, aware_moves, hopeful_stays, hopeful_moves, open_stays, courting_stays, courting_moves, courted_moves, courted_kept}

-- ---- steps of any kind

-- if P holds before a step, it holds after it
abbrev pub Stays : (Configuration → Type 0) → Type 0
Stays P = (c : Configuration) (chosen : ℕ → Option Rule) → IsLawful c → AllHold c chosen → P c → P (step c chosen)

-- if P holds: Q stays true in each step, and becomes true if i isn't privileged or has moved
pub record Brings (P Q : Configuration → Type 0) (i : ℕ) : Type 0 where
  pub stays : (c : Configuration) (chosen : ℕ → Option Rule) → IsLawful c → AllHold c chosen → P c → Q c → Q (step c chosen)
  pub idle : (c : Configuration) → IsLawful c → P c → is_privileged c i ≡ false → Q c
  pub moves : (c : Configuration) (chosen : ℕ → Option Rule) (r : Rule) → IsLawful c → AllHold c chosen → P c → chosen i ≡ Some r → Q (step c chosen)

-- ---- as long as the number of married nodes doesn't grow

-- if P holds before a calm step, in which no node is newly married, it holds after it
abbrev pub CalmStays : (Configuration → Type 0) → Type 0
CalmStays P = (c : Configuration) (chosen : ℕ → Option Rule) → IsLawful c → AllHold c chosen → Calm c chosen → P c → P (step c chosen)

pub record CalmBrings (P Q : Configuration → Type 0) (i : ℕ) : Type 0 where
  pub stays : (c : Configuration) (chosen : ℕ → Option Rule) → IsLawful c → AllHold c chosen → Calm c chosen → P c → Q c → Q (step c chosen)
  pub idle : (c : Configuration) → IsLawful c → P c → is_privileged c i ≡ false → Q c
  pub moves : (c : Configuration) (chosen : ℕ → Option Rule) (r : Rule) → IsLawful c → AllHold c chosen → Calm c chosen → P c → chosen i ≡ Some r
      → Q (step c chosen)

-- at least k + 2 nodes are married; or at least k nodes are married, and P holds
abbrev pub Within : ℕ → (Configuration → Type 0) → Configuration → Type 0
Within k P c = (k + 2 ≤ married_count c) ⊎ ((k ≤ married_count c) × P c)

-- if P stays true in calm steps, `Within k P` stays true in all steps
pub calm_stays : (k : ℕ) (P : Configuration → Type 0) → CalmStays P → Stays (Within k P)
calm_stays k P stays c chosen l h p = grind (arith, nat_tests, married_kept, grows)

-- if P stays true in calm steps, and a turn of i makes Q true as long as the steps are calm, it makes `Within k` of both
-- true in all steps
pub calm_brings : (k : ℕ) (P Q : Configuration → Type 0) (i : ℕ) → CalmStays P → CalmBrings P Q i → Brings (Within k P) (Within k (λ c. P c × Q c)) i
calm_brings k P Q i stays b = grind (arith, nat_tests, married_kept, grows)

-- ---- the stages of a run

-- a fact that always holds
abbrev pub Any : Configuration → Type 0
Any c = Unit {0}

-- after its turn, a node has m false or is married
pub modest_brings : (i : ℕ) → Brings Any (λ c. i < c.size → Modest i c) i
modest_brings i = record {
  stays = λ c chosen l h p q lt. modest_stays c chosen l h i (q lt);
  idle = λ c l p e lt free. idle-settled c i l e ∙ free;
  moves = λ c chosen r l h p e lt. modest_moves c chosen l h i r e;
}

-- if m is false at each node that isn't married, the same holds after each step
pub modest_each : Stays (Each Modest)
modest_each c chosen l h p i lt = modest_stays c chosen l h i (p i lt)

-- each node that isn't married has m false, and points at no lower node
pub record IsSettled (c : Configuration) : Type 0 where
  pub modest : Each Modest c
  pub upward : Each Upward c

-- a settled configuration stays settled in each step
pub settled_stays : Stays IsSettled
settled_stays c chosen l h p = record { modest = modest_each c chosen l h p.modest; upward = λ i lt. upward_stays c chosen l h i (p.upward i lt) }

-- the configuration is settled, and each married node has m true
pub record IsAware (c : Configuration) : Type 0 where
  pub settled : IsSettled c
  pub aware : Each Aware c

-- the configuration is aware, and no node that isn't married points at a married one
pub record IsHopeful (c : Configuration) : Type 0 where
  pub aware : IsAware c
  pub hopeful : Each Hopeful c

-- an aware configuration stays aware as long as the number of married nodes doesn't grow
pub aware_calm : CalmStays IsAware
aware_calm c chosen l h calm p = record { settled = settled_stays c chosen l h p.settled; aware = λ i lt. aware_stays c chosen l h calm i (p.aware i lt) }

pub hopeful_calm : CalmStays IsHopeful
hopeful_calm c chosen l h calm p = record { aware = aware_calm c chosen l h calm p.aware; hopeful = λ i lt. hopeful_stays c chosen l h calm i (p.hopeful i lt) }

-- the configuration is hopeful, and the linked nodes a and b aren't married
pub record IsReady (a b : ℕ) (c : Configuration) : Type 0 where
  pub before : IsHopeful c
  pub link : IsOpen a b c

-- `IsReady` stays true as long as the number of married nodes doesn't grow
pub ready_calm : (a b : ℕ) → CalmStays (IsReady a b)
ready_calm a b c chosen l h calm p = record { before = hopeful_calm c chosen l h calm p.before; link = open_stays c chosen l h calm a b p.link }

-- the configuration is hopeful, and s points at t, whose pointer is null
pub record IsWooed (s t : ℕ) (c : Configuration) : Type 0 where
  pub before : IsHopeful c
  pub pair : IsCourted s t c

-- `IsWooed` stays true as long as the number of married nodes doesn't grow
pub wooed_calm : (s t : ℕ) → CalmStays (IsWooed s t)
wooed_calm s t c chosen l h calm p = search (rules, hopeful_calm, courted_kept)

-- a fact that never holds
abbrev pub Never : Configuration → Type 0
Never c = ⊥

-- if only married nodes have m true, a node that isn't married points at no lower node after its turn
pub upward_brings : (i : ℕ) → Brings (Each Modest) (λ c. i < c.size → Upward i c) i
upward_brings i = grind (arith, nat_tests, upward_stays, upward_idle, upward_moves)

-- in a settled configuration, a married node has m true after its turn, as long as the number of married nodes doesn't
-- grow
pub aware_brings : (i : ℕ) → CalmBrings IsSettled (λ c. i < c.size → Aware i c) i
aware_brings i = grind (arith, nat_tests, aware_stays, idle-settled, aware_moves)

-- in an aware configuration, an unmarried node points at no married node after its turn, as long as the number of
-- married nodes doesn't grow
pub hopeful_brings : (i : ℕ) → CalmBrings IsAware (λ c. i < c.size → Hopeful i c) i
hopeful_brings i = grind (arith, nat_tests, hopeful_stays, hopeful_idle, hopeful_moves)

-- if a and its higher neighbour b aren't married, then after the turn of a some unmarried node points at a node, as
-- long as the number of married nodes doesn't grow
pub courting_brings : (a b : ℕ) → CalmBrings (IsReady a b) IsCourting a
courting_brings a b = record {
  stays = λ c chosen l h calm p q. let k = p.before.aware.settled in courting_stays c chosen l h calm k.modest k.upward p.before.hopeful q;
  idle = grind (arith, nat_tests, no_open_link);
  moves = λ c chosen r l h calm p e. let k = p.before.aware.settled in courting_moves c chosen l h calm k.modest k.upward p.before.hopeful a b p.link r e;
}

-- if t has a null pointer and a suitor, it can't have its turn without the number of married nodes growing
pub wedding_brings : (s t : ℕ) → CalmBrings (IsWooed s t) Never t
wedding_brings s t = record {
  stays = λ c chosen l h calm p q. q;
  idle = λ c l p e. quiet-alone c s t l p.pair.suitor p.pair.null (idle-quiet c t l e);
  moves = λ c chosen r l h calm p e. let k = p.before.aware.settled in courted_moves c chosen l h calm k.modest k.upward s t p.pair r e;
}

-- ---- if no node is married

-- no node is married, and m is false at each; some node points at a higher node, or the pointer of a is null and its
-- higher neighbour b points at a or at no node
pub record IsDawning (a b : ℕ) (c : Configuration) : Type 0 where
  pub modest : Each Modest c
  pub lone : IsLone c
  pub either : IsRising c ⊎ IsFacing a b c

-- `IsDawning` stays true as long as the number of married nodes doesn't grow
pub dawning_calm : (a b : ℕ) → CalmStays (IsDawning a b)
dawning_calm a b c chosen l h calm p = grind (arith, nat_tests, modest_each, lone_stays, rising_stays, facing_stays)

-- if `IsDawning` holds, some node points at a higher node after the turn of a, as long as the number of married nodes
-- doesn't grow
pub dawning_brings : (a b : ℕ) → CalmBrings (IsDawning a b) IsRising a
dawning_brings a b = record {
  stays = λ c chosen l h calm p q. rising_stays c chosen l h calm p.modest p.lone q;
  idle = grind (arith, nat_tests, no_open_link, quiet-alone, idle-quiet);
  moves = λ c chosen r l h calm p e. elim p.either [
    | inl up ↦ rising_stays c chosen l h calm p.modest p.lone up
    | inr k ↦ facing_moves c chosen l h calm p.modest p.lone a b k r e
  ];
}
