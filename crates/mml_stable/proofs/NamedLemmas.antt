-- A report names only nodes of its world.
use Rattle.std.proofs.Common.{◌≡◌, ℕ, zero, suc, ◌<◌, Bool, true, ◌&&◌, ltb, List, Option, None, Some, Result, arith, rules}
use Rattle.std.{specs.Result.IfOk, specs.List.All, proofs.lemmas.Bool.and_parts, proofs.lemmas.Bool.Decides.nat_tests, proofs.lemmas.List.Elements.All-nil, proofs.lemmas.List.Elements.All-append}
use Rattle.mml_rules.specs.{declared.rule.Kind.Kind, Configuration.Configuration, Configuration.IsLawful, Configuration.holds}
use Rattle.mml_rules.proofs.RulesLemmas.{pointee_in}
use Rattle.mml_board.specs.World.{World, IsWorld, size, configuration}
use Rattle.mml_stable.specs.declared.stability_report.Report.{Report}
use Rattle.mml_stable.specs.Reports.{each_below, listed_if, pair_at, privileged_at, is_open, open_link, report_of, IsPairOf, IsOpenLinkOf, NamesNodes}
use Rattle.mml_stable.proofs.WalkLemmas.{certified}

-- if P holds of x whenever the test is true, P holds of each item of `listed_if`
pub all_listed : {X : Type 0} (P : X → Type 0) (b : Bool) (x : X) → (b ≡ true → P x) → All P (listed_if b x)
all_listed P b x h = grind (arith, nat_tests)

-- if P holds of each item of the lists for the numbers below n, P holds of each item of `each_below`
pub all_below : {X : Type 0} (P : X → Type 0) (n : ℕ) (f : ℕ → List X) → ((i : ℕ) → i < n → All P (f i)) → All P (each_below n f)
all_below P zero f h = All-nil P
all_below P (suc n) f h = All-append P (each_below n f) (f n) (all_below P n f (λ i l. h i (omega arith))) (h n (omega arith))

module _ (w : World) (is : IsWorld w) where
  abbrev c : Configuration
  c = configuration w

  lawful : IsLawful c
  lawful = is.network.lawful

  pair_names : (i : ℕ) → i < c.size → (o : Option ℕ) → c.p i ≡ o → All (IsPairOf c.size) (pair_at c i o)
  pair_names i l None e = All-nil (IsPairOf c.size)
  pair_names i l (Some j) e = all_listed (IsPairOf c.size) (ltb i j && holds (c.p j) i) (i, j) (λ _. (l, pointee_in c i j lawful e))

  privileged_names : (i : ℕ) → i < c.size → (o : Option Kind) → All (λ p. p.0 < c.size) (privileged_at i o)
  privileged_names i l o = grind (arith, nat_tests)

  link_names : (a b : ℕ) → a < c.size → b < c.size → is_open c a b ≡ true → IsOpenLinkOf c.size (open_link c a b)
  link_names a b la lb h = grind (arith, nat_tests, and_parts, certified)

  pub report_names : NamesNodes (size w) (report_of w)
  report_names = search (rules, all_below, pair_names, all_listed, privileged_names, link_names)

-- a report on a lawful world names only nodes of that world
pub named : {E : Type 0} (w : World) (told : Result Report E) → IsWorld w → IfOk told (λ r. r ≡ report_of w) → IfOk told (NamesNodes (size w))
named w told is e = grind (arith, report_names)
