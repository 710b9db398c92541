-- The run in the network of two halves in which each close applies one move, and its number of rounds.
use Rattle.std.{proofs.lemmas.Grind.common_steps, proofs.lemmas.List.get_or-replicate, proofs.lemmas.List.length-replicate, specs.List.list_all}
use Rattle.std.proofs.Common.{◌≡◌, ℕ, zero, suc, ◌+◌, ◌*◌, ◌-◌, ◌<◌, ◌≤◌, Bool, true, nat_lt, None, List, length, refl, ap, subst, arith}
use Rattle.std.proofs.lemmas.Bool.{both_ways, eq-eqb, or_left, cases_lt, lt-ltb, ltb-true, Decides.nat_tests}
use Rattle.mml_ids.specs.declared.TheConstants.{MAX_NODES}
use Rattle.mml_rules.specs.{declared.regs.Regs.Regs, declared.rule.Rule.Rule, Network.no_regs, Network.registers_at, Rules.is_privileged, Rules.guard, Matching.IsStable}
use Rattle.mml_rules.specs.Configuration.{Configuration, IsLawful}
use Rattle.mml_rules.proofs.RulesLemmas.{married-null}
use Rattle.mml_lab.specs.Rosters.{RosterValue, owns}
use Rattle.mml_board.specs.{declared.event.Event.Event, World.World, World.size, World.configuration, World.IsWorld, Runs.is_legal_list, Runs.world_of}
use Rattle.mml_board.proofs.WorldLemmas.{none_at}
use Rattle.mml_convergence.specs.{Moves.applied_over, Moves.count_closes, Rest.is_grant_or_close, Rounds.Rounds, Rounds.rounds_for, Halves.is_joined, Halves.halves, Halves.halves_world}
use Rattle.mml_convergence.proofs.MoveLemmas.{IsMoved, stop, turned}
use Rattle.mml_convergence.proofs.{IdleLemmas.privileged, SinglyLemmas.single_round, OneByOneLemmas.first_updates_stand, RunLemmas.Onward, RunLemmas.court, RunLemmas.marry, RunLemmas.learn, RunLemmas.phase}
use Rattle.mml_convergence.proofs.PhaseLemmas.{Shape, Seated, updates_hold, abandonments_hold, leaves-from, shaped}
use Rattle.mml_lab.specs.declared.who.Who.TheVariants as who
use Rattle.mml_convergence.proofs.OpeningLemmas as opening

-- the nodes of the lower half
abbrev lower : ℕ → ℕ → Bool
lower n i = nat_lt (2 * i) n

lower_from : (n i : ℕ) → 2 * i < n → lower n i ≡ true
lower_from n i lt = lt-ltb (2 * i) n lt

-- the run ends with some node privileged
abbrev Restless : World → ℕ → Type 0
Restless u x = ¬ IsStable (configuration u)

-- ---- the phases

-- the number of rounds of the phases from the one with f + 2 free nodes on
abbrev rounds_of : ℕ → ℕ
rounds_of zero = 2
rounds_of (suc zero) = 3
rounds_of (suc (suc f)) = suc (suc (suc (suc (rounds_of f))))

rounds_are : (f : ℕ) → rounds_for (suc (suc f)) ≡ suc (suc (rounds_of f))
rounds_are zero = refl
rounds_are (suc zero) = refl
rounds_are (suc (suc f)) = omega (arith, rounds_are f)

module _ (r : RosterValue) (s n : ℕ) (owned : (i : ℕ) → i < n → owns r (who.Student s) i ≡ true) where
  abbrev Leads : ℕ → (Configuration → Type 0) → Type 0
  Leads = Onward r s n (lower n) owned Restless

  -- the run may end if a rule may be applied at some node
  rests : (a : ℕ) (rule : Rule) (P : Configuration → Type 0) → ((c : Configuration) → P c → (a < c.size) × IsLawful c × (guard c a rule ≡ true)) → Leads 0 P
  rests a rule P may w world quiet at = stop Restless r w (λ stable.
      let x = may (configuration w) at in both_ways (is_privileged (configuration w) a) (stable a x.0) (privileged (configuration w) x.1 a rule x.2))

  phases : (f p b : ℕ) (sum : p + b + 1 ≡ n) (room : 2 * p + 2 ≤ n) → 2 * p + 2 + f ≡ n → Leads (rounds_of f) (Seated n (lower n) p)
  phases zero p b sum room whole =
      court r s n (lower n) owned p b sum room Restless 1 (marry r s n (lower n) owned p b sum room _ 0
      (rests b Rule.Update _ (λ c at.
      let lt : b < c.size = omega (arith, sum, at.shape.size) in
      (lt, at.shape.lawful, updates_hold n (lower n) p b sum room c at b lt (or_left _ _ (eq-eqb b b refl))))))
  phases (suc zero) p b sum room whole =
      court r s n (lower n) owned p b sum room Restless 2 (marry r s n (lower n) owned p b sum room _ 1 (learn r s n (lower n) owned p b sum room _ 0
      (rests (suc p) Rule.Abandonment _ (λ c at.
      let lt : suc p < c.size = omega (arith, whole, at.shape.size) in (
        lt,
        at.shape.lawful,
        abandonments_hold n (lower n) p b sum room c at (suc p) lt
            (leaves-from n (lower n) p b sum room (suc p) (omega arith) (omega (arith, whole, sum)) (lower_from n (suc p) (omega (arith, whole)))),
      )))))
  phases (suc (suc f)) p b sum room whole =
      phase r s n (lower n) owned p b sum room Restless (rounds_of f)
      (phases f (suc p) (n - (p + 2)) (omega (arith, whole)) (omega (arith, whole)) (omega (arith, whole)))

-- ---- the world of two halves

joined_low : (n i j : ℕ) → is_joined n i j ≡ true → i < j → lower n i ≡ true
joined_low n i j e lt = grind (arith, nat_tests)

module _ (n : ℕ) where
  abbrev at_first : Configuration
  at_first = configuration (halves_world n)

  pub first_size : size (halves_world n) ≡ n
  first_size = length-replicate n (record { p = None; m = true })

  first_registers : (i : ℕ) → i < n → registers_at (halves n).registers i ≡ record { p = None; m = true }
  first_registers i lt = get_or-replicate n i (record { p = None; m = true }) no_regs lt

  first_null : (i : ℕ) → at_first.p i ≡ None
  first_null i = grind (arith, common_steps, cases_lt, first_registers, first_size)

  first_m : (i : ℕ) → i < n → at_first.m i ≡ true
  first_m i lt = ap (λ (g : Regs). g.m) (first_registers i lt)

  first_lawful : IsLawful at_first
  first_lawful = opening.first_lawful n (is_joined n) (halves n).registers first_size (grind (arith, nat_tests)) (grind (arith, nat_tests)) (λ i j lt e.
      let null = first_null i in absurd (cc))

  first_shape : Shape n (lower n) at_first
  first_shape = record {
    size = first_size;
    lawful = first_lawful;
    joined = λ r b i sum room from below low.
        let lt = ltb-true (2 * i) n low in
        let linked = opening.linked-from n (is_joined n) (halves n).registers first_size i b (omega (arith, below, sum)) (omega (arith, sum))
        (grind (arith, nat_tests)) in
        (linked, first_lawful.symmetric i b linked);
    upward = λ i j e lt. joined_low n i j (opening.linked-means n (is_joined n) (halves n).registers first_size i j e).2 lt;
    lowest = λ r room. lower_from n r (omega (arith, room));
  }

  pub first_world : n ≤ MAX_NODES → IsWorld (halves_world n)
  first_world few = opening.first_world n (is_joined n) (halves n).registers first_size first_lawful few

  -- after each node has updated, phase 0 can begin
  seated : (d : Configuration) → IsMoved at_first d (λ i. nat_lt i n) Rule.Update → Seated n (lower n) 0 d
  seated d e = record {
    shape = shaped at_first d (λ i. nat_lt i n) Rule.Update e n (lower n) first_shape;
    couples = λ i j lt total. absurd (omega (arith, lt));
    free = grind (arith, nat_tests, turned, first_size, lt-ltb, first_null, married-null);
  }

-- ---- the whole run

abbrev pub Reaches : RosterValue → World → ℕ → Type 0
Reaches r w k = (es : List Event) × (is_legal_list r w es ≡ true) × (list_all is_grant_or_close es ≡ true) × (applied_over w es ≡ count_closes es)
    × Rounds k w es × (¬ IsStable (configuration (world_of w es)))

pub rounds_reached : (r : RosterValue) (s n : ℕ) → 2 ≤ n → n ≤ MAX_NODES → ((i : ℕ) → i < n → owns r (who.Student s) i ≡ true) → Reaches r (halves_world n) (rounds_for n - 1)
rounds_reached r s zero two few owned = absurd (omega (arith, two))
rounds_reached r s (suc zero) two few owned = absurd (omega (arith, two))
rounds_reached r s (suc (suc f)) two few owned =
    let n = suc (suc f) in
    let run =
    single_round Restless r s (rounds_of f) n (λ i. nat_lt i n) Rule.Update (halves_world n) (first_world n few)
    (none_at (length (halves_world n).network.registers)) (first_size n) owned
    (first_updates_stand (configuration (halves_world n)) (λ i. nat_lt i n) (λ i lt. (first_null n i, first_m n i (omega (arith, lt, first_size n)))))
    (λ i lt off. absurd (both_ways (nat_lt i n) off (lt-ltb i n (omega (arith, lt, first_size n)))))
    (λ u ku qu moved. phases r s n owned f 0 (n - 1) (omega arith) (omega arith) (omega arith) u ku qu (seated n (configuration u) moved)) in
    let e : suc (rounds_of f) ≡ rounds_for n - 1 = omega (arith, rounds_are f) in
    (run.events, run.legal, run.forward, run.alone, subst (λ k. Rounds k (halves_world n) run.events) e run.rounds, run.ends)
